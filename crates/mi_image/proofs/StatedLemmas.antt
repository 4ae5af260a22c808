-- A right record states its own length.
use Rattle.std.proofs.Common.{◌≡◌, ℕ, suc, ◌+◌, ◌-◌, ◌^◌, ◌<◌, ◌≤◌, Bool, true, false, cond, eqb, ltb, List, [], ◌∷◌, ◌++◌, length, take, drop, Option, Some, None, Result, Ok, Err, refl, sym, ap, subst, ◌∙◌, arith, append_assoc}
use Rattle.std.specs.Prelude.{option_and_then, option_map, codes, nat_eq, not}
use Rattle.std.specs.Int.{w16, w32, to_be_bytes}
use Rattle.std.specs.List.{flat_map, list_all, starts_with}
use Rattle.std.proofs.lemmas.Bool.{ltb-true, lt-ltb, le-ltb}
use Rattle.std.proofs.lemmas.List.{length-append, drop_at, drop-drop, take_at, append-nil}
use Rattle.std.proofs.lemmas.List.Concat.{flat_map-cons}
use Rattle.std.proofs.lemmas.Nat.{from_be_bytes-to_be_bytes_2, from_be_bytes-to_be_bytes_4}
use Rattle.mi_text.specs.Maps.{Name}
use Rattle.mi_text.specs.Fold.{folded}
use Rattle.mi_text.specs.Path.{is_folder_path}
use Rattle.mi_base.specs.declared.rec_error.RecFault.{RecFault}
use Rattle.mi_base.specs.declared.entry.RegValue.{RegValue}
use Rattle.mi_base.specs.declared.entry.RegValue.TheVariants as value
use Rattle.mi_base.specs.declared.entry.Product.{Product}
use Rattle.mi_base.specs.declared.entry.Shortcut.{Shortcut}
use Rattle.mi_base.specs.declared.entry.Entry.{Entry}
use Rattle.mi_base.specs.declared.entry.Entry.TheVariants as entry
use Rattle.mi_base.specs.Fields.{string, strings, signed, four_numbers, payload}
use Rattle.mi_base.specs.Limits.{fits, fits_value, is_short, are_few, is_key}
use Rattle.mi_base.specs.Names.{folder_name, key_name, value_name, shortcut_name, variable_name, client_name, product_name, system_name}
use Rattle.mi_base.specs.Spelling.{name_of, record_of, shortcut_bytes, product_bytes}
use Rattle.mi_base.specs.Records.{entry_of}
use Rattle.mi_base.specs.Machine.{ok_entry}
use Rattle.mi_base.proofs.ByteLemmas.{both}
use Rattle.mi_base.proofs.EntryLemmas.{spells}
use Rattle.mi_base.proofs.NameLemmas.{key_short}
use Rattle.mi_base.proofs.RecordLemmas.{short_value_name, short_variable_name}
use Rattle.mi_base.proofs.FoldLemmas.{file_short, folder_short}
use Rattle.mi_image.specs.Scan.{scanned_item, item_read}
use Rattle.mi_image.specs.Stated.{byte_of, number_of, byte_in, number_in, further, text_end, texts_end, list_end, kind_payload_end, payload_end, value_end, shortcut_end, product_end, kind_end, stated_length}
use Rattle.mi_image.proofs.PrefixLemmas.{starts_append}
use Rattle.mi_image.proofs.ReadLemmas.{file_name_is, string_length}

-- ---- places

-- a record ends with these bytes, which begin at this place
record Stands (whole : List ℕ) (at : ℕ) (bytes : List ℕ) : Type 0 where
  pub there : drop at whole ≡ bytes
  pub within : at + length bytes ≡ length whole

begun : (whole bytes : List ℕ) → whole ≡ bytes → Stands whole 0 bytes
begun whole bytes is = record { there = is; within = omega (arith, ap length is) }

behind : (whole : List ℕ) (at : ℕ) (field rest : List ℕ) → Stands whole at (field ++ rest) → Stands whole (at + length field) rest
behind whole at field rest stands = record {
  there = sym (drop-drop (length field) at whole) ∙ ap (drop (length field)) stands.there ∙ drop_at field rest (length field) refl;
  within = omega (arith, stands.within, length-append field rest);
}

-- a field has its bytes behind a place
has : (whole : List ℕ) (at : ℕ) (field rest : List ℕ) (n : ℕ) → Stands whole at (field ++ rest) → length field ≡ n → further (length whole) at n ≡ Some (at + n)
has whole at field rest n stands long =
    let fits : ltb (length whole) (at + n) ≡ false = le-ltb (length whole) (at + n) (omega (arith, stands.within, long, length-append field rest)) in
    ap (λ (b : Bool). cond b None (Some (at + n))) fits

number32 : (whole : List ℕ) (at n : ℕ) (rest : List ℕ) → Stands whole at (to_be_bytes w32 n ++ rest) → n < 2 ^ 32 → number_in w32 whole at ≡ Some n
number32 whole at n rest stands small =
    ap (λ (bytes : List ℕ). number_of w32 (take 4 bytes)) stands.there
    ∙ ap (number_of w32) (take_at (to_be_bytes w32 n) rest 4 refl)
    ∙ ap (λ (k : ℕ). Some k) (from_be_bytes-to_be_bytes_4 n small)

number16 : (whole : List ℕ) (at n : ℕ) (rest : List ℕ) → Stands whole at (to_be_bytes w16 n ++ rest) → n < 2 ^ 16 → number_in w16 whole at ≡ Some n
number16 whole at n rest stands small =
    ap (λ (bytes : List ℕ). number_of w16 (take 2 bytes)) stands.there
    ∙ ap (number_of w16) (take_at (to_be_bytes w16 n) rest 2 refl)
    ∙ ap (λ (k : ℕ). Some k) (from_be_bytes-to_be_bytes_2 n small)

-- ---- texts

then_is : (o : Option ℕ) (f : ℕ → Option ℕ) (x : ℕ) → o ≡ Some x → option_and_then f o ≡ f x
then_is o f x is = ap (option_and_then f) is

-- where a text stands, it ends behind its length and its bytes
text_is : (whole : List ℕ) (at : ℕ) (t rest : List ℕ) → Stands whole at (string t ++ rest) → is_short t ≡ true → text_end whole at ≡ Some (at + length (string t))
unfolding text_end
text_is whole at t rest stands short =
    let parts : string t ++ rest ≡ to_be_bytes w32 (length t) ++ (t ++ rest) = append_assoc (to_be_bytes w32 (length t)) t rest in
    let n = number32 whole at (length t) (t ++ rest) (subst (Stands whole at) parts stands) (ltb-true _ _ short) in
    let same : at + (4 + length t) ≡ at + length (string t) = omega (arith, string_length t) in
    then_is (number_in w32 whole at) (λ k. further (length whole) at (4 + k)) (length t) n
    ∙ has whole at (string t) rest (4 + length t) stands (string_length t)
    ∙ ap (λ (k : ℕ). Some k) same

last_text : (whole : List ℕ) (at : ℕ) (t : List ℕ) → Stands whole at (string t) → is_short t ≡ true → text_end whole at ≡ Some (length whole)
last_text whole at t stands short =
    text_is whole at t [] (subst (Stands whole at) (sym (append-nil (string t))) stands) short ∙ ap (λ (k : ℕ). Some k) stands.within

-- texts, one behind the other
last_texts : (whole : List ℕ) (ts : List (List ℕ)) (at : ℕ) → Stands whole at (flat_map string ts) → list_all is_short ts ≡ true → texts_end whole at (length ts) ≡ Some (length whole)
unfolding texts_end
last_texts whole [] at stands short = let same : at ≡ length whole = omega (arith, stands.within) in ap (λ (k : ℕ). Some k) same
last_texts whole (t ∷ ts) at stands short =
    let parts = both (is_short t) (list_all is_short ts) short in
    let here : Stands whole at (string t ++ flat_map string ts) = subst (Stands whole at) (flat_map-cons string t ts) stands in
    then_is (text_end whole at) (λ end. texts_end whole end (length ts)) (at + length (string t)) (text_is whole at t (flat_map string ts) here parts.0)
    ∙ last_texts whole ts (at + length (string t)) (behind whole at (string t) (flat_map string ts) here) parts.1

-- one text more
pub texts_step : (bytes : List ℕ) (at next count done : ℕ) → done < count → text_end bytes at ≡ Some next → texts_end bytes at (count - done) ≡ texts_end bytes next (count - (done + 1))
unfolding texts_end
texts_step bytes at next count done more is =
    let n : count - done ≡ suc (count - (done + 1)) = omega (arith, more) in
    ap (texts_end bytes at) n ∙ ap (option_and_then (λ e. texts_end bytes e (count - (done + 1)))) is

pub texts_stop : (bytes : List ℕ) (at count done : ℕ) → done < count → text_end bytes at ≡ None → texts_end bytes at (count - done) ≡ None
unfolding texts_end
texts_stop bytes at count done more is =
    let n : count - done ≡ suc (count - (done + 1)) = omega (arith, more) in
    ap (texts_end bytes at) n ∙ ap (option_and_then (λ e. texts_end bytes e (count - (done + 1)))) is

-- none more
pub no_texts : (bytes : List ℕ) (at count done : ℕ) → count ≤ done → texts_end bytes at (count - done) ≡ Some at
unfolding texts_end
no_texts bytes at count done all = let n : count - done ≡ 0 = omega (arith, all) in ap (texts_end bytes at) n

-- a count and as many texts
last_list : (whole : List ℕ) (at : ℕ) (ts : List (List ℕ)) → Stands whole at (strings ts) → are_few ts ≡ true → list_all is_short ts ≡ true → list_end whole at ≡ Some (length whole)
unfolding list_end
last_list whole at ts stands few short =
    then_is (number_in w16 whole at) (λ n. option_and_then (λ first. texts_end whole first n) (further (length whole) at 2)) (length ts) (number16 whole at (length ts) (flat_map string ts) stands (ltb-true _ _ few))
    ∙ then_is (further (length whole) at 2) (λ first. texts_end whole first (length ts)) (at + 2) (has whole at (to_be_bytes w16 (length ts)) (flat_map string ts) 2 stands refl)
    ∙ last_texts whole ts (at + 2) (behind whole at (to_be_bytes w16 (length ts)) (flat_map string ts) stands) short

-- ---- kinds

variable_is : (whole name text : List ℕ) → whole ≡ string name ++ string text → is_short name ≡ true → is_short text ≡ true → texts_end whole 0 2 ≡ Some (length whole)
unfolding texts_end
variable_is whole name text is short long =
    let s = begun whole (string name ++ string text) is in
    then_is (text_end whole 0) (λ end. texts_end whole end 1) (0 + length (string name)) (text_is whole 0 name (string text) s short)
    ∙ then_is (text_end whole (0 + length (string name))) (λ end. texts_end whole end 0) (length whole) (last_text whole (0 + length (string name)) text (behind whole 0 (string name) (string text) s) long)

nested : (a b c d e f g h i : List ℕ) → a ++ b ++ c ++ d ++ e ++ f ++ g ++ h ++ i ≡ a ++ (b ++ (c ++ (d ++ (e ++ (f ++ (g ++ (h ++ i)))))))
nested a b c d e f g h i =
    append_assoc (a ++ b ++ c ++ d ++ e ++ f ++ g) h i
    ∙ append_assoc (a ++ b ++ c ++ d ++ e ++ f) g (h ++ i)
    ∙ append_assoc (a ++ b ++ c ++ d ++ e) f (g ++ (h ++ i))
    ∙ append_assoc (a ++ b ++ c ++ d) e (f ++ (g ++ (h ++ i)))
    ∙ append_assoc (a ++ b ++ c) d (e ++ (f ++ (g ++ (h ++ i))))
    ∙ append_assoc (a ++ b) c (d ++ (e ++ (f ++ (g ++ (h ++ i)))))
    ∙ append_assoc a b (c ++ (d ++ (e ++ (f ++ (g ++ (h ++ i))))))

-- four texts end behind the last
four_texts : (whole : List ℕ) (a b c d rest : List ℕ) → whole ≡ string a ++ (string b ++ (string c ++ (string d ++ rest))) → is_short a ≡ true → is_short b ≡ true → is_short c ≡ true → is_short d ≡ true → (at : ℕ) × (texts_end whole 0 4 ≡ Some at) × Stands whole at rest
unfolding texts_end
four_texts whole a b c d rest is sa sb sc sd =
    let s0 = begun whole (string a ++ (string b ++ (string c ++ (string d ++ rest)))) is in
    let p1 : ℕ = 0 + length (string a) in
    let s1 = behind whole 0 (string a) (string b ++ (string c ++ (string d ++ rest))) s0 in
    let p2 : ℕ = p1 + length (string b) in
    let s2 = behind whole p1 (string b) (string c ++ (string d ++ rest)) s1 in
    let p3 : ℕ = p2 + length (string c) in
    let s3 = behind whole p2 (string c) (string d ++ rest) s2 in
    let p4 : ℕ = p3 + length (string d) in (
      p4,
      then_is (text_end whole 0) (λ end. texts_end whole end 3) p1 (text_is whole 0 a (string b ++ (string c ++ (string d ++ rest))) s0 sa)
          ∙ then_is (text_end whole p1) (λ end. texts_end whole end 2) p2 (text_is whole p1 b (string c ++ (string d ++ rest)) s1 sb)
          ∙ then_is (text_end whole p2) (λ end. texts_end whole end 1) p3 (text_is whole p2 c (string d ++ rest) s2 sc)
          ∙ then_is (text_end whole p3) (λ end. texts_end whole end 0) p4 (text_is whole p3 d rest s3 sd),
      behind whole p3 (string d) rest s3,
    )

shortcut_is : (whole : List ℕ) (s : Shortcut) → whole ≡ shortcut_bytes s → fits (entry.Shortcut s) ≡ true → shortcut_end whole ≡ Some (length whole)
unfolding shortcut_end shortcut_bytes fits
shortcut_is whole s is right =
    let f5 = both _ _ right in
    let f4 = both _ _ f5.0 in
    let f3 = both _ _ f4.0 in
    let f2 = both _ _ f3.0 in
    let f1 = both _ _ f2.0 in
    let n = file_short s.shown f1.0 in
    let short : is_short s.shown ≡ true = lt-ltb _ _ (omega arith) in
    let r7 : List ℕ = to_be_bytes w16 s.show ++ string s.folder in
    let r6 : List ℕ = signed s.icon_index ++ r7 in
    let r5 : List ℕ = string s.icon ++ r6 in
    let r4 : List ℕ = to_be_bytes w16 s.hotkey ++ r5 in
    let d = four_texts whole s.shown s.target s.arguments s.description r4 (is ∙ nested (string s.shown) (string s.target) (string s.arguments) (string s.description) (to_be_bytes w16 s.hotkey) (string s.icon) (signed s.icon_index) (to_be_bytes w16 s.show) (string s.folder)) short f1.1 f2.1 f3.1 in
    let s5 = behind whole d.0 (to_be_bytes w16 s.hotkey) r5 d.2 in
    let icon : ℕ = d.0 + 2 + length (string s.icon) in
    let s6 = behind whole (d.0 + 2) (string s.icon) r6 s5 in
    let four : r6 ≡ (signed s.icon_index ++ to_be_bytes w16 s.show) ++ string s.folder = sym (append_assoc (signed s.icon_index) (to_be_bytes w16 s.show) (string s.folder)) in
    let s7 = subst (Stands whole icon) four s6 in
    let s8 = behind whole icon (signed s.icon_index ++ to_be_bytes w16 s.show) (string s.folder) s7 in
    then_is (texts_end whole 0 4) (λ description. option_and_then (λ hot_key. option_and_then (λ icon. option_and_then (λ show. text_end whole show) (further (length whole) icon 4)) (text_end whole hot_key)) (further (length whole) description 2)) d.0 d.1
    ∙ then_is (further (length whole) d.0 2) (λ hot_key. option_and_then (λ icon. option_and_then (λ show. text_end whole show) (further (length whole) icon 4)) (text_end whole hot_key)) (d.0 + 2) (has whole d.0 (to_be_bytes w16 s.hotkey) r5 2 d.2 refl)
    ∙ then_is (text_end whole (d.0 + 2)) (λ icon. option_and_then (λ show. text_end whole show) (further (length whole) icon 4)) icon (text_is whole (d.0 + 2) s.icon r6 s5 f4.1)
    ∙ then_is (further (length whole) icon 4) (λ show. text_end whole show) (icon + 4) (has whole icon (signed s.icon_index ++ to_be_bytes w16 s.show) (string s.folder) 4 s7 refl)
    ∙ last_text whole (icon + 4) s.folder s8 f5.1

payload_is : (whole : List ℕ) (at : ℕ) (v : RegValue) → Stands whole at (payload v) → fits_value v ≡ true → payload_end whole at ≡ Some (length whole)
unfolding payload_end
payload_is whole at v stands fit = by v stands fit
  where
    first : (kind : ℕ) (rest : List ℕ) → Stands whole at (kind ∷ rest) → option_and_then (λ k. option_and_then (λ next. kind_payload_end whole next k) (further (length whole) at 1)) (byte_in whole at) ≡ kind_payload_end whole (at + 1) kind
    first kind rest here =
        then_is (byte_in whole at) (λ k. option_and_then (λ next. kind_payload_end whole next k) (further (length whole) at 1)) kind (ap (λ (bytes : List ℕ). byte_of (take 1 bytes)) here.there)
        ∙ then_is (further (length whole) at 1) (λ next. kind_payload_end whole next kind) (at + 1) (has whole at (kind ∷ []) rest 1 here refl)

    by : (v : RegValue) → Stands whole at (payload v) → fits_value v ≡ true → payload_end whole at ≡ Some (length whole)
    by (value.Text t) here fit = first 1 (string t) here ∙ last_text whole (at + 1) t (behind whole at (1 ∷ []) (string t) here) fit
    by (value.Expand t) here fit = first 2 (string t) here ∙ last_text whole (at + 1) t (behind whole at (2 ∷ []) (string t) here) fit
    by (value.Int n) here fit =
        let s = behind whole at (3 ∷ []) (to_be_bytes w32 n) here in
        let alone : Stands whole (at + 1) (to_be_bytes w32 n ++ []) = subst (Stands whole (at + 1)) (sym (append-nil (to_be_bytes w32 n))) s in
        first 3 (to_be_bytes w32 n) here ∙ has whole (at + 1) (to_be_bytes w32 n) [] 4 alone refl ∙ ap (λ (k : ℕ). Some k) s.within
    by (value.Binary b) here fit = first 4 (string b) here ∙ last_text whole (at + 1) b (behind whole at (4 ∷ []) (string b) here) fit
    by (value.List ts) here fit = let two = both _ _ fit in first 5 (strings ts) here ∙ last_list whole (at + 1) ts (behind whole at (5 ∷ []) (strings ts) here) two.0 two.1

value_is : (whole shown : List ℕ) (v : RegValue) → whole ≡ string shown ++ payload v → is_short shown ≡ true → fits_value v ≡ true → value_end whole ≡ Some (length whole)
unfolding value_end
value_is whole shown v is short fit =
    let s = begun whole (string shown ++ payload v) is in
    then_is (text_end whole 0) (λ at. payload_end whole at) (0 + length (string shown)) (text_is whole 0 shown (payload v) s short)
    ∙ payload_is whole (0 + length (string shown)) v (behind whole 0 (string shown) (payload v) s) fit

product_is : (whole : List ℕ) (p : Product) → whole ≡ product_bytes p → fits (entry.Product p) ≡ true → product_end whole ≡ Some (length whole)
unfolding product_end product_bytes fits
product_is whole p is right =
    let three = both _ _ right in
    let two = both _ _ three.0 in
    let one = both _ _ two.0 in
    let numbers : List ℕ = four_numbers p.version ++ to_be_bytes w16 p.language in
    let nest : whole ≡ string p.name ++ (numbers ++ strings p.features) =
    is ∙ append_assoc (string p.name ++ four_numbers p.version) (to_be_bytes w16 p.language) (strings p.features)
    ∙ append_assoc (string p.name) (four_numbers p.version) (to_be_bytes w16 p.language ++ strings p.features)
    ∙ ap (λ (t : List ℕ). string p.name ++ t) (sym (append_assoc (four_numbers p.version) (to_be_bytes w16 p.language) (strings p.features))) in
    let at : ℕ = 0 + length (string p.name) in
    let s1 = begun whole (string p.name ++ (numbers ++ strings p.features)) nest in
    let s2 = behind whole 0 (string p.name) (numbers ++ strings p.features) s1 in
    then_is (text_end whole 0) (λ name. option_and_then (λ language. list_end whole language) (further (length whole) name 10)) at (text_is whole 0 p.name (numbers ++ strings p.features) s1 one.0)
    ∙ then_is (further (length whole) at 10) (λ language. list_end whole language) (at + 10) (has whole at numbers (strings p.features) 10 s2 refl)
    ∙ last_list whole (at + 10) p.features (behind whole at numbers (strings p.features) s2) one.1 two.1

-- ---- all kinds

kind_is : (whole : List ℕ) (e : Entry) → starts_with nat_eq (name_of e) (codes "f/") ≡ false → whole ≡ record_of e → fits e ≡ true → stated_length (name_of e) whole ≡ Some (length whole)
unfolding kind_end record_of fits folder_name key_name value_name shortcut_name variable_name client_name product_name system_name
kind_is whole (entry.File f) other is right =
    let clash : true ≡ false = sym (ap (λ (n : Name). starts_with nat_eq n (codes "f/")) (file_name_is f.shown) ∙ starts_append (codes "f/") (folded f.shown)) ∙ other in
    absurd cc
kind_is whole (entry.Folder t) other is right =
    let n : length t ≤ 259 = folder_short t (both (is_folder_path t) (not (eqb (length t) 3)) right).0 in
    let short : is_short t ≡ true = lt-ltb (length t) (2 ^ 32) (omega (arith, n)) in
    last_text whole 0 t (begun whole (string t) is) short
kind_is whole (entry.Key r t) other is right =
    let n : length t ≤ 500 = key_short t (both (ltb r 4) (is_key t) right).1 in
    let short : is_short t ≡ true = lt-ltb (length t) (2 ^ 32) (omega (arith, n)) in
    last_text whole 0 t (begun whole (string t) is) short
kind_is whole (entry.Product p) other is right = product_is whole p is right
kind_is whole (entry.Value k v) other is right = let two = both _ _ right in value_is whole k.shown v is (short_value_name k.shown (both _ _ two.0).1) two.1
kind_is whole (entry.Shortcut s) other is right = shortcut_is whole s is right
kind_is whole (entry.Variable v) other is right = let two = both _ _ right in variable_is whole v.name v.value is (short_variable_name v.name two.0) two.1
kind_is whole (entry.Client c) other is right = last_text whole 0 c.key_path (begun whole (string c.key_path) is) right
kind_is whole (entry.System p t) other is right = last_text whole 0 t (begun whole (string t) is) (both _ _ right).1

-- a record that states another length, or none, isn't right
pub length_refuses : (q : Name) (whole : List ℕ) (size : ℕ) (stated : Option ℕ) → starts_with nat_eq q (codes "f/") ≡ false → length whole ≡ size → stated ≡ stated_length q whole → ((stated ≡ Some size) → ⊥) → item_read q whole ≡ None
length_refuses q whole size stated other long told unlike = by_read (entry_of q whole) refl
  where
    by_read : (r : Result Entry RecFault) → entry_of q whole ≡ r → option_map scanned_item (ok_entry r) ≡ None
    by_read (Err f) is = refl
    by_read (Ok e) is =
        let s = spells q whole e is in
        let own : stated_length q whole ≡ Some (length whole) = ap (λ (n : Name). stated_length n whole) (sym s.named) ∙ kind_is whole e (ap (λ (n : Name). starts_with nat_eq n (codes "f/")) s.named ∙ other) (sym s.spelled) s.right in
        absurd (unlike (told ∙ own ∙ ap (λ (n : ℕ). Some n) long))
