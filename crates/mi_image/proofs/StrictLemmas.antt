-- A right record that is cut short is no right record, and its only fault is that it ends.
use Rattle.std.proofs.Common.{◌≡◌, ℕ, zero, suc, ◌<◌, ◌≤◌, Bool, true, false, cond, ltb, eqb, ◌⊎◌, List, [], ◌∷◌, ◌++◌, length, take, drop, Option, Some, None, Result, Ok, Err, refl, sym, ap, subst, ◌∙◌, arith, inl, inr}
use Rattle.std.specs.Prelude.{codes, nat_eq, option_map}
use Rattle.std.specs.Int.{Width, w16, w32, byte_len, from_be_bytes}
use Rattle.std.specs.List.{starts_with}
use Rattle.std.specs.Str.{is_utf8, bytes_eq}
use Rattle.std.proofs.lemmas.Bool.{cases_Bool, cases_lt, lt-ltb, le-ltb, eqb-true}
use Rattle.std.proofs.lemmas.List.{take-append-le, take-append-drop, length-append, length-drop}
use Rattle.mi_text.specs.Bytes.{are_bytes}
use Rattle.mi_text.specs.Fold.{folded}
use Rattle.mi_text.specs.Maps.{Name}
use Rattle.mi_base.specs.declared.rec_error.RecFault.{RecFault}
use Rattle.mi_base.specs.declared.rec_error.RecFault.TheVariants.{Short, Field}
use Rattle.mi_base.specs.declared.reading.Order.{Order}
use Rattle.mi_base.specs.declared.reading.Order.TheVariants.{Any, Rising}
use Rattle.mi_base.specs.declared.entry.Entry.{Entry}
use Rattle.mi_base.specs.Reading.{◌>>=◌, number_at, bytes_at, text_at, shown_at, items_at, texts_at, text_follows, four_numbers_at, payload_at, value_at, ended}
use Rattle.mi_base.specs.Records.{folder_of, key_of, value_of, shortcut_of, variable_of, client_in, client_of, product_in, product_of, system_of, kind_of, entry_in, entry_of}
use Rattle.mi_base.specs.Machine.{ok_entry}
use Rattle.mi_base.proofs.ByteLemmas.{bytes_front}
use Rattle.mi_base.proofs.FieldLemmas.{bind_ok, guard_ok, guard_passed, ok_is, refused, ended_ok}
use Rattle.mi_image.specs.Scan.{scanned_item, item_read}
use Rattle.mi_image.proofs.PrefixLemmas.{starts_append}

-- ---- reading all, and reading a front of it

-- what one reads of all bytes, another that has these fewer reads too, with so much less behind it, or it finds that they end
abbrev Stop : {X : Type 0} → List ℕ → Result (X × List ℕ) RecFault → Result (X × List ℕ) RecFault → Type 0
Stop {X = X} fewer all front = (x : X) (rest : List ℕ) → all ≡ Ok (x, rest) → (front ≡ Err Short) ⊎ ((r : List ℕ) × (front ≡ Ok (x, r)) × (rest ≡ r ++ fewer))

-- what one reads to its end, the other finds to end before
abbrev End : {X : Type 0} → Result X RecFault → Result X RecFault → Type 0
End {X = X} all front = (x : X) → all ≡ Ok x → front ≡ Err Short

bind_stop : {X Y : Type 0} (g : List ℕ) (all front : Result (X × List ℕ) RecFault) (k : X × List ℕ → Result (Y × List ℕ) RecFault) → Stop g all front
    → ((x : X) (r : List ℕ) → Stop g (k (x, r ++ g)) (k (x, r))) → Stop g (all >>= k) (front >>= k)
bind_stop {X = X} {Y = Y} g all front k first second y rest is = let b = bind_ok all k (y, rest) is in by (b.0).0 (b.0).1 b.2 (first (b.0).0 (b.0).1 b.1)
  where
    by : (x : X) (left : List ℕ) → k (x, left) ≡ Ok (y, rest) → (front ≡ Err Short) ⊎ ((r : List ℕ) × (front ≡ Ok (x, r)) × (left ≡ r ++ g))
        → ((front >>= k) ≡ Err Short) ⊎ ((r : List ℕ) × ((front >>= k) ≡ Ok (y, r)) × (rest ≡ r ++ g))
    by x left more (inl short) = inl (ap (λ t. t >>= k) short)
    by x left more (inr here) =
        subst (λ (t : Result (X × List ℕ) RecFault). ((t >>= k) ≡ Err Short) ⊎ ((r : List ℕ) × ((t >>= k) ≡ Ok (y, r)) × (rest ≡ r ++ g))) (sym here.1)
        (second x here.0 y rest (ap (λ (l : List ℕ). k (x, l)) (sym here.2) ∙ more))

bind_end : {X Y : Type 0} (g : List ℕ) (all front : Result (X × List ℕ) RecFault) (k : X × List ℕ → Result Y RecFault) → Stop g all front
    → ((x : X) (r : List ℕ) → End (k (x, r ++ g)) (k (x, r))) → End (all >>= k) (front >>= k)
bind_end {X = X} {Y = Y} g all front k first second y is = let b = bind_ok all k y is in by (b.0).0 (b.0).1 b.2 (first (b.0).0 (b.0).1 b.1)
  where
    by : (x : X) (left : List ℕ) → k (x, left) ≡ Ok y → (front ≡ Err Short) ⊎ ((r : List ℕ) × (front ≡ Ok (x, r)) × (left ≡ r ++ g)) → (front >>= k) ≡ Err Short
    by x left more (inl short) = ap (λ t. t >>= k) short
    by x left more (inr here) = ap (λ t. t >>= k) here.1 ∙ second x here.0 y (ap (λ (l : List ℕ). k (x, l)) (sym here.2) ∙ more)

-- ---- steps

plain_stop : {X : Type 0} (f g : List ℕ) (x : X) → Stop g (Ok (x, f ++ g)) (Ok (x, f))
plain_stop {X = X} f g x y rest is =
    let pair : (x, f ++ g) ≡ (y, rest) = ok_is (x, f ++ g) (y, rest) is in
    inr (f, ap (λ (p : X × List ℕ). Ok (p.0, f)) pair, sym (ap (λ (p : X × List ℕ). p.1) pair))

no_stop : {X : Type 0} (g : List ℕ) (front : Result (X × List ℕ) RecFault) → Stop g (Err Field) front
no_stop g front x rest is = absurd (refused Field (x, rest) is)

no_end : {X : Type 0} (front : Result X RecFault) → End (Err Field) front
no_end front x is = absurd (refused Field x is)

guard_stop : {X : Type 0} (g : List ℕ) (b : Bool) (all front : Result (X × List ℕ) RecFault) → Stop g all front → Stop g (cond b all (Err Field)) (cond b front (Err Field))
guard_stop g true all front stops = stops
guard_stop g false all front stops = no_stop g (Err Field)

guard_end : {X : Type 0} (b : Bool) (all front : Result X RecFault) → End all front → End (cond b all (Err Field)) (cond b front (Err Field))
guard_end true all front ends = ends
guard_end false all front ends = no_end (Err Field)

choice_stop : {X : Type 0} (g : List ℕ) (b : Bool) (all all2 front front2 : Result (X × List ℕ) RecFault) → Stop g all front → Stop g all2 front2 → Stop g (cond b all all2) (cond b front front2)
choice_stop g true all all2 front front2 one two = one
choice_stop g false all all2 front front2 one two = two

choice_end : {X : Type 0} (b : Bool) (all all2 front front2 : Result X RecFault) → End all front → End all2 front2 → End (cond b all all2) (cond b front front2)
choice_end true all all2 front front2 one two = one
choice_end false all all2 front front2 one two = two

ended_end : {X : Type 0} (x : X) (f g : List ℕ) → 0 < length g → End (ended (x, f ++ g)) (ended (x, f))
ended_end x f g some y is = let none = ap length (ended_ok x (f ++ g) y is).0 in absurd (let z : ⊥ = omega (arith, some, none, length-append f g) in z)

drop-append : (n : ℕ) (xs ys : List ℕ) → n ≤ length xs → drop n (xs ++ ys) ≡ drop n xs ++ ys
drop-append zero xs ys le = refl
drop-append (suc n) [] ys le = absurd (let z : ⊥ = omega arith in z)
drop-append (suc n) (x ∷ xs) ys le = drop-append n xs ys (omega arith)

-- so many bytes, and what is made of them
abbrev piece : {X : Type 0} → ℕ → (List ℕ → X) → List ℕ → Result (X × List ℕ) RecFault
piece n made bytes = cond (ltb (length bytes) n) (Err Short) (Ok (made (take n bytes), drop n bytes))

piece_stop : {X : Type 0} (n : ℕ) (made : List ℕ → X) (f g : List ℕ) → Stop g (piece n made (f ++ g)) (piece n made f)
piece_stop {X = X} n made f g x rest is = by (cases_lt (length f) n)
  where
    chosen : (b : Bool) → ltb (length f) n ≡ b → piece n made f ≡ cond {A = Result (X × List ℕ) RecFault} b (Err Short) (Ok (made (take n f), drop n f))
    chosen b is = ap (λ t. cond {A = Result (X × List ℕ) RecFault} t (Err Short) (Ok (made (take n f), drop n f))) is

    by : (length f < n) ⊎ (n ≤ length f) → (piece n made f ≡ Err Short) ⊎ ((r : List ℕ) × (piece n made f ≡ Ok (x, r)) × (rest ≡ r ++ g))
    by (inl short) = inl (chosen true (lt-ltb _ _ short))
    by (inr long) =
        let whole : Result (X × List ℕ) RecFault = Ok (made (take n (f ++ g)), drop n (f ++ g)) in
        let all = guard_ok (ltb (length (f ++ g)) n) Short whole (x, rest) is in
        let pair = ok_is (made (take n (f ++ g)), drop n (f ++ g)) (x, rest) all.1 in
        let value : made (take n f) ≡ x = ap made (sym (take-append-le n f g long)) ∙ ap (λ (p : X × List ℕ). p.0) pair in
        let behind : rest ≡ drop n f ++ g = sym (ap (λ (p : X × List ℕ). p.1) pair) ∙ drop-append n f g long in
        inr (drop n f, chosen false (le-ltb _ _ long) ∙ ap (λ (y : X). Ok (y, drop n f)) value, behind)

-- ---- fields

number_stop : (w : Width) (f g : List ℕ) → Stop g (number_at w (f ++ g)) (number_at w f)
number_stop w f g = piece_stop (byte_len w) (from_be_bytes w) f g

bytes_stop : (f g : List ℕ) → Stop g (bytes_at (f ++ g)) (bytes_at f)
unfolding bytes_at
bytes_stop f g = bind_stop g (number_at w32 (f ++ g)) (number_at w32 f) (λ n. cond (ltb (length n.1) n.0) (Err Short) (Ok (take n.0 n.1, drop n.0 n.1))) (number_stop w32 f g) (λ n r. piece_stop n (λ t. t) r g)

text_stop : (f g : List ℕ) → Stop g (text_at (f ++ g)) (text_at f)
unfolding text_at
text_stop f g = bind_stop g (bytes_at (f ++ g)) (bytes_at f) (λ t. cond (is_utf8 t.0) (Ok t) (Err Field)) (bytes_stop f g) (λ t r. guard_stop g (is_utf8 t) (Ok (t, r ++ g)) (Ok (t, r)) (plain_stop r g t))

shown_stop : (named f g : List ℕ) → Stop g (shown_at named (f ++ g)) (shown_at named f)
unfolding shown_at
shown_stop named f g = bind_stop g (text_at (f ++ g)) (text_at f) (λ t. cond (bytes_eq (folded t.0) named) (Ok t) (Err Field)) (text_stop f g) (λ t r. guard_stop g (bytes_eq (folded t) named) (Ok (t, r ++ g)) (Ok (t, r)) (plain_stop r g t))

texts_stop_from : (order : Order) (last : Option (List ℕ)) (n : ℕ) (f g : List ℕ) → Stop g (items_at text_at (text_follows order) last n (f ++ g)) (items_at text_at (text_follows order) last n f)
unfolding items_at
texts_stop_from order last zero f g = plain_stop f g []
texts_stop_from order last (suc n) f g =
    bind_stop g (text_at (f ++ g)) (text_at f) (λ first. cond (text_follows order last first.0) (items_at text_at (text_follows order) (Some first.0) n first.1 >>= λ others. Ok (first.0 ∷ others.0, others.1)) (Err Field)) (text_stop f g) (λ t r.
    guard_stop g (text_follows order last t) (items_at text_at (text_follows order) (Some t) n (r ++ g) >>= λ others. Ok (t ∷ others.0, others.1)) (items_at text_at (text_follows order) (Some t) n r >>= λ others. Ok (t ∷ others.0, others.1))
    (bind_stop g (items_at text_at (text_follows order) (Some t) n (r ++ g)) (items_at text_at (text_follows order) (Some t) n r) (λ others. Ok (t ∷ others.0, others.1)) (texts_stop_from order (Some t) n r g) (λ ts s. plain_stop s g (t ∷ ts))))

texts_stop : (order : Order) (f g : List ℕ) → Stop g (texts_at order (f ++ g)) (texts_at order f)
unfolding texts_at
texts_stop order f g = bind_stop g (number_at w16 (f ++ g)) (number_at w16 f) (λ n. items_at text_at (text_follows order) None n.0 n.1) (number_stop w16 f g) (λ n r. texts_stop_from order None n r g)

four_stop : (f g : List ℕ) → Stop g (four_numbers_at (f ++ g)) (four_numbers_at f)
unfolding four_numbers_at
four_stop f g =
    bind_stop g (number_at w16 (f ++ g)) (number_at w16 f) _ (number_stop w16 f g) (λ a r1.
    bind_stop g (number_at w16 (r1 ++ g)) (number_at w16 r1) _ (number_stop w16 r1 g) (λ b r2.
    bind_stop g (number_at w16 (r2 ++ g)) (number_at w16 r2) _ (number_stop w16 r2 g) (λ c r3.
    bind_stop g (number_at w16 (r3 ++ g)) (number_at w16 r3) _ (number_stop w16 r3 g) (λ d r4. plain_stop r4 g _))))

payload_stop : (kind : ℕ) (f g : List ℕ) → Stop g (payload_at kind (f ++ g)) (payload_at kind f)
payload_stop kind f g =
    choice_stop g (eqb kind 1) _ _ _ _ (bind_stop g (text_at (f ++ g)) (text_at f) _ (text_stop f g) (λ t r. plain_stop r g _))
    (choice_stop g (eqb kind 2) _ _ _ _ (bind_stop g (text_at (f ++ g)) (text_at f) _ (text_stop f g) (λ t r. plain_stop r g _))
    (choice_stop g (eqb kind 3) _ _ _ _ (bind_stop g (number_at w32 (f ++ g)) (number_at w32 f) _ (number_stop w32 f g) (λ n r. plain_stop r g _))
    (choice_stop g (eqb kind 4) _ _ _ _ (bind_stop g (bytes_at (f ++ g)) (bytes_at f) _ (bytes_stop f g) (λ b r. plain_stop r g _))
    (choice_stop g (eqb kind 5) _ _ _ _ (bind_stop g (texts_at Any (f ++ g)) (texts_at Any f) _ (texts_stop Any f g) (λ ts r. plain_stop r g _))
    (no_stop g (Err Field))))))

value_stop : (f g : List ℕ) → Stop g (value_at (f ++ g)) (value_at f)
unfolding value_at
value_stop [] g = λ x rest is. inl refl
value_stop (kind ∷ f) g = payload_stop kind f g

-- ---- records

folder_end : (path f g : List ℕ) → 0 < length g → End (folder_of path (f ++ g)) (folder_of path f)
unfolding folder_of
folder_end path f g some =
    guard_end _ _ _ (bind_end g (shown_at path (f ++ g)) (shown_at path f) _ (shown_stop path f g) (λ t r. guard_end _ _ _ (ended_end _ r g some)))

key_end : (name f g : List ℕ) → 0 < length g → End (key_of name (f ++ g)) (key_of name f)
unfolding key_of
key_end [] f g some = no_end (Err Field)
key_end (root ∷ key) f g some = guard_end _ _ _ (bind_end g (shown_at key (f ++ g)) (shown_at key f) _ (shown_stop key f g) (λ t r. ended_end _ r g some))

value_end : (name f g : List ℕ) → 0 < length g → End (value_of name (f ++ g)) (value_of name f)
unfolding value_of
value_end [] f g some = no_end (Err Field)
value_end (r ∷ []) f g some = no_end (Err Field)
value_end (r ∷ a ∷ []) f g some = no_end (Err Field)
value_end (r ∷ a ∷ b ∷ []) f g some = no_end (Err Field)
value_end (r ∷ a ∷ b ∷ c ∷ []) f g some = no_end (Err Field)
value_end (r ∷ a ∷ b ∷ c ∷ d ∷ rest) f g some =
    guard_end _ _ _ (guard_end _ _ _ (bind_end g (shown_at _ (f ++ g)) (shown_at _ f) _ (shown_stop _ f g) (λ t r1.
    bind_end g (value_at (r1 ++ g)) (value_at r1) _ (value_stop r1 g) (λ v r2. ended_end _ r2 g some))))

shortcut_end : (path f g : List ℕ) → 0 < length g → End (shortcut_of path (f ++ g)) (shortcut_of path f)
unfolding shortcut_of
shortcut_end path f g some =
    guard_end _ _ _ (bind_end g (shown_at path (f ++ g)) (shown_at path f) _ (shown_stop path f g) (λ shown r0. guard_end _ _ _ (
    bind_end g (text_at (r0 ++ g)) (text_at r0) _ (text_stop r0 g) (λ target r1.
    bind_end g (text_at (r1 ++ g)) (text_at r1) _ (text_stop r1 g) (λ arguments r2.
    bind_end g (text_at (r2 ++ g)) (text_at r2) _ (text_stop r2 g) (λ description r3.
    bind_end g (number_at w16 (r3 ++ g)) (number_at w16 r3) _ (number_stop w16 r3 g) (λ hotkey r4.
    bind_end g (text_at (r4 ++ g)) (text_at r4) _ (text_stop r4 g) (λ icon r5.
    bind_end g (number_at w16 (r5 ++ g)) (number_at w16 r5) _ (number_stop w16 r5 g) (λ icon_index r6.
    bind_end g (number_at w16 (r6 ++ g)) (number_at w16 r6) _ (number_stop w16 r6 g) (λ show r7.
    bind_end g (text_at (r7 ++ g)) (text_at r7) _ (text_stop r7 g) (λ folder r8. ended_end _ r8 g some)))))))))))

variable_end : (name f g : List ℕ) → 0 < length g → End (variable_of name (f ++ g)) (variable_of name f)
unfolding variable_of
variable_end [] f g some = no_end (Err Field)
variable_end (owner ∷ name) f g some =
    guard_end _ _ _ (bind_end g (shown_at name (f ++ g)) (shown_at name f) _ (shown_stop name f g) (λ t r.
    bind_end g (text_at (r ++ g)) (text_at r) _ (text_stop r g) (λ v s. ended_end _ s g some)))

client_end : (component product : Option ℕ) (f g : List ℕ) → 0 < length g → End (client_in component product (f ++ g)) (client_in component product f)
client_end None product f g some = no_end (Err Field)
client_end (Some component) None f g some = no_end (Err Field)
client_end (Some component) (Some product) f g some = bind_end g (text_at (f ++ g)) (text_at f) _ (text_stop f g) (λ t r. ended_end _ r g some)

product_end : (code : Option ℕ) (f g : List ℕ) → 0 < length g → End (product_in code (f ++ g)) (product_in code f)
product_end None f g some = no_end (Err Field)
product_end (Some code) f g some =
    bind_end g (text_at (f ++ g)) (text_at f) _ (text_stop f g) (λ name r0.
    bind_end g (four_numbers_at (r0 ++ g)) (four_numbers_at r0) _ (four_stop r0 g) (λ version r1.
    bind_end g (number_at w16 (r1 ++ g)) (number_at w16 r1) _ (number_stop w16 r1 g) (λ language r2.
    bind_end g (texts_at Rising (r2 ++ g)) (texts_at Rising r2) _ (texts_stop Rising r2 g) (λ features r3. ended_end _ r3 g some))))

system_end : (property f g : List ℕ) → 0 < length g → End (system_of property (f ++ g)) (system_of property f)
unfolding system_of
system_end property f g some = guard_end _ _ _ (bind_end g (text_at (f ++ g)) (text_at f) _ (text_stop f g) (λ t r. ended_end _ r g some))

kind_end : (kind : ℕ) (rest f g : List ℕ) → eqb kind 102 ≡ false → 0 < length g → End (kind_of kind rest (f ++ g)) (kind_of kind rest f)
unfolding client_of product_of
kind_end kind rest f g other some =
    rw other (
    choice_end (eqb kind 100) _ _ _ _ (folder_end rest f g some)
    (choice_end (eqb kind 107) _ _ _ _ (key_end rest f g some)
    (choice_end (eqb kind 118) _ _ _ _ (value_end rest f g some)
    (choice_end (eqb kind 115) _ _ _ _ (shortcut_end rest f g some)
    (choice_end (eqb kind 110) _ _ _ _ (variable_end rest f g some)
    (choice_end (eqb kind 99) _ _ _ _ (client_end _ _ f g some)
    (choice_end (eqb kind 112) _ _ _ _ (product_end _ f g some)
    (choice_end (eqb kind 121) _ _ _ _ (system_end rest f g some)
    (no_end (Err Field))))))))))

-- where a record that isn't a file's is right, each front of it ends too early
pub front_ends : (q : Name) (f g : List ℕ) (e : Entry) → starts_with nat_eq q (codes "f/") ≡ false → 0 < length g → entry_of q (f ++ g) ≡ Ok e → entry_of q f ≡ Err Short
unfolding entry_of
front_ends [] f g e other some is = absurd (refused Field e is)
front_ends (kind ∷ []) f g e other some is = absurd (refused Field e is)
front_ends (kind ∷ slash ∷ rest) f g e other some is =
    let s = guard_passed (eqb slash 47) Field (entry_in kind rest (f ++ g)) e is in
    let b = guard_passed (are_bytes (f ++ g)) Field (kind_of kind rest (f ++ g)) e s.1 in
    let front : are_bytes f ≡ true = (bytes_front f g b.0).0 in
    rw (s.0, front) (kind_end kind rest f g (by_kind (eqb-true slash 47 s.0) (cases_Bool (eqb kind 102))) some e b.1)
  where
    by_kind : slash ≡ 47 → (eqb kind 102 ≡ true) ⊎ (eqb kind 102 ≡ false) → eqb kind 102 ≡ false
    by_kind here (inr not_file) = not_file
    by_kind here (inl file) =
        let is_file : starts_with nat_eq (kind ∷ slash ∷ rest) (codes "f/") ≡ true = ap (λ (n : Name). starts_with nat_eq n (codes "f/")) (ap (λ (k : ℕ). k ∷ slash ∷ rest) (eqb-true kind 102 file) ∙ ap (λ (s : ℕ). 102 ∷ s ∷ rest) here) ∙ starts_append (codes "f/") rest in
        let clash : true ≡ false = sym is_file ∙ other in
        absurd cc

-- so where a front of a record doesn't end too early, the record isn't right
pub front_refuses : (q : Name) (front whole : List ℕ) → starts_with nat_eq q (codes "f/") ≡ false → length front < length whole → take (length front) whole ≡ front → ((entry_of q front ≡ Err Short) → ⊥) → item_read q whole ≡ None
front_refuses q front whole other some start not_early = by_read (entry_of q whole) refl
  where
    by_read : (r : Result Entry RecFault) → entry_of q whole ≡ r → option_map scanned_item (ok_entry r) ≡ None
    by_read (Err f) is = refl
    by_read (Ok e) is =
        let behind : List ℕ = drop (length front) whole in
        let parts : front ++ behind ≡ whole = ap (λ (t : List ℕ). t ++ behind) (sym start) ∙ take-append-drop (length front) whole in
        absurd (not_early (front_ends q front behind e other (omega (arith, some, length-drop (length front) whole)) (ap (entry_of q) parts ∙ is)))
