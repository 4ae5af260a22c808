-- Where nothing differs the machines are one.
use Rattle.std.proofs.Common.{◌≡◌, ℕ, ◌⊎◌, inl, inr, ◌<◌, ◌^◌, Bool, true, false, cond, ◌||◌, List, [], ◌∷◌, ◌++◌, map, length, Option, Some, None, refl, sym, ap, subst, ◌∙◌, append_assoc, codes, arith}
use Rattle.std.specs.Prelude.{option_map, is_some, filter, nat_eq}
use Rattle.std.specs.List.{flat_map, starts_with, AllByRecursion}
use Rattle.std.specs.Str.{bytes_eq}
use Rattle.std.specs.Cmp.Lexicographic.{same_text, other_text}
use Rattle.std.specs.FinMap.{get, keys, find, get-from_entries}
use Rattle.md5.specs.Md5.{md5}
use Rattle.mi_text.specs.Maps.{Name, name_cmp, same_name, is_among}
use Rattle.mi_text.proofs.MapLemmas.{same, names_total, from_same, among-keys, is_among-append}
use Rattle.mi_base.specs.declared.entry.FileEntry.{FileEntry}
use Rattle.mi_base.specs.declared.entry.Entry.{Entry}
use Rattle.mi_base.specs.declared.entry.Entry.TheVariants as entry
use Rattle.mi_base.specs.Names.{file_name, folder_name, key_name, value_name, shortcut_name, variable_name, client_name, product_name, system_name}
use Rattle.mi_base.specs.Spelling.{name_of, head_of}
use Rattle.mi_base.specs.Machine.{Machine, Fits}
use Rattle.mi_image.specs.Items.{bytes_of_file}
use Rattle.mi_print.specs.Texts.{field}
use Rattle.mi_print.specs.Lines.{details, file_line}
use Rattle.mi_print.specs.Entries.{other_line}
use Rattle.mi_print_looks.specs.Sets.{names_of, name_set}
use Rattle.mi_show.specs.Differences.{names_of_either, entry_line, line_at, change, difference, differences, titled, kinds, kind_text, different}
use Rattle.mi_print.specs.Laws.{letter, IsFile, IsSmallFile}
use Rattle.mi_show.specs.Laws.{SameDiffersNowhere, IsShown, ToldByHash, NothingDiffersInOne}
use Rattle.mi_print.proofs.CodeLemmas.{field_tab, heads}
use Rattle.mi_print.proofs.LineLemmas.{details_apart, details_spread}
use Rattle.mi_print.proofs.LawLemmas.{lines_exact, head_is}
use Rattle.mi_print_looks.proofs.SetLemmas.{member}

-- ---- nothing

not_text : (b : ℕ) (x : List ℕ) → ¬ (b ∷ x ≡ [])
not_text b x e = absurd cc

no_parts : (a b : List ℕ) → a ++ b ≡ [] → (a ≡ []) × (b ≡ [])
no_parts [] b e = (refl, e)
no_parts (x ∷ a) b e = absurd (not_text x (a ++ b) e)

flat_nothing : {X : Type 0} → (f : X → List ℕ) (xs : List X) → flat_map f xs ≡ [] → AllByRecursion (λ x. f x ≡ []) xs
flat_nothing f [] e = tt
flat_nothing f (x ∷ xs) e = let parts = no_parts (f x) (flat_map f xs) e in (parts.0, flat_nothing f xs parts.1)

flat_none : {X : Type 0} → (f : X → List ℕ) (xs : List X) → ((x : X) → f x ≡ []) → flat_map f xs ≡ []
flat_none f [] none = refl
flat_none f (x ∷ xs) none = λ i. none x i ++ flat_none f xs none i

titled_nothing : (t x : List ℕ) → titled t x ≡ [] → x ≡ []
titled_nothing t [] e = refl
titled_nothing t (b ∷ x) e = let parts = no_parts _ _ e in absurd (not_text 10 _ parts.1)

itself : (x : List ℕ) (r : Bool) → r ≡ bytes_eq x x → r ≡ true
itself x true e = refl
itself x false e = absurd (other_text x x e refl)

change_self : (o : Option (List ℕ)) → change o o ≡ []
change_self None = refl
change_self (Some x) = ap (λ (t : Bool). cond t [] (codes "~- " ++ x ++ codes "~+ " ++ x)) (itself x (bytes_eq x x) refl)

pub same_nowhere : SameDiffersNowhere
unfolding different
same_nowhere m = flat_none (kind_text m m) kinds (λ k. ap (titled k.title) (flat_none (difference m m) (names_of_either k.front m m) (λ q. change_self (line_at m q))))

marked : (x y : List ℕ) → ¬ (codes "~- " ++ x ++ codes "~+ " ++ y ≡ [])
marked x y none =
    let first = no_parts (codes "~- " ++ x ++ codes "~+ ") y none in
    let second = no_parts (codes "~- " ++ x) (codes "~+ ") first.0 in
    not_text 126 (45 ∷ 32 ∷ []) (no_parts (codes "~- ") x second.0).0

change_nothing : (a b : Option (List ℕ)) → change a b ≡ [] → a ≡ b
change_nothing None None e = refl
change_nothing None (Some y) e = absurd (not_text 43 (32 ∷ y) e)
change_nothing (Some x) None e = absurd (not_text 45 (32 ∷ x) e)
change_nothing (Some x) (Some y) e = elim (bytes_eq x y) as (λ t. bytes_eq x y ≡ t → cond t [] (codes "~- " ++ x ++ codes "~+ " ++ y) ≡ [] → Some x ≡ Some y) [
  | true ↦ λ t none. ap (λ (l : List ℕ). Some l) (same_text x y (sym t))
  | false ↦ λ t none. absurd (marked x y none)
] refl e

-- ---- names

all_at : (P : Name → Type 0) (names : List Name) (q : Name) → AllByRecursion P names → is_among q names ≡ true → P q
all_at P [] q all e = absurd cc
all_at P (n ∷ names) q all e = elim (same_name q n) as (λ b. same_name q n ≡ b → (b || is_among q names) ≡ true → P q) [
  | true ↦ λ b k. subst P (sym (from_same q n b)) all.0
  | false ↦ λ b k. all_at P names q all.1 k
] refl e

filter_keeps : (p : Name → Bool) (names : List Name) (q : Name) → p q ≡ true → is_among q names ≡ true → is_among q (filter p names) ≡ true
filter_keeps p [] q pq e = e
filter_keeps p (n ∷ names) q pq e = elim (same_name q n) as (λ b. same_name q n ≡ b → (b || is_among q names) ≡ true → is_among q (cond (p n) (n ∷ filter p names) (filter p names)) ≡ true) [
  | true ↦ λ b k. let keeps : p n ≡ true = ap p (sym (from_same q n b)) ∙ pq in ap (λ (t : Bool). is_among q (cond t (n ∷ filter p names) (filter p names))) keeps ∙ ap (λ (t : Bool). t || is_among q (filter p names)) b
  | false ↦ λ b k. elim (p n) as (λ t. is_among q (cond t (n ∷ filter p names) (filter p names)) ≡ true) [
    | true ↦ ap (λ (t : Bool). t || is_among q (filter p names)) b ∙ filter_keeps p names q pq k
    | false ↦ filter_keeps p names q pq k
  ]
] refl e

in_set : (names : List Name) (q : Name) → is_among q names ≡ true → find name_cmp q (map member names) ≡ Some tt
in_set [] q e = absurd cc
in_set (n ∷ names) q e = elim (same_name q n) as (λ b. (b || is_among q names) ≡ true → cond b (Some tt) (find name_cmp q (map member names)) ≡ Some tt) [
  | true ↦ λ k. refl
  | false ↦ λ k. in_set names q k
] e

or_left : (a b : Bool) → a ≡ true → (a || b) ≡ true
or_left a b e = ap (λ (t : Bool). t || b) e

or_right : (a b : Bool) → b ≡ true → (a || b) ≡ true
or_right true b e = refl
or_right false b e = e

held_name : (m : Machine) (front q : Name) → starts_with nat_eq q front ≡ true → is_some (get m q) ≡ true → is_among q (names_of front m) ≡ true
held_name m front q begins held = filter_keeps (λ n. starts_with nat_eq n front) (keys m) q begins (sym (among-keys m q) ∙ held)

-- the name of an entry of either machine is among those that are gone over
either_name : (m n : Machine) (front q : Name) → starts_with nat_eq q front ≡ true → (is_some (get m q) ≡ true) ⊎ (is_some (get n q) ≡ true) → is_among q (names_of_either front m n) ≡ true
either_name m n front q begins held =
    let names = names_of front m ++ names_of front n in
    let among : is_among q names ≡ true = is_among-append q (names_of front m) (names_of front n) ∙ by held in
    sym (among-keys (name_set names) q) ∙ ap is_some (get-from_entries names_total (map member names) q ∙ in_set names q among)
  where
    by : (is_some (get m q) ≡ true) ⊎ (is_some (get n q) ≡ true) → (is_among q (names_of front m) || is_among q (names_of front n)) ≡ true
    by (inl h) = or_left (is_among q (names_of front m)) (is_among q (names_of front n)) (held_name m front q begins h)
    by (inr h) = or_right (is_among q (names_of front m)) (is_among q (names_of front n)) (held_name n front q begins h)

front_of : Entry → Name
front_of e = letter e ∷ 47 ∷ []

name_begins : (e : Entry) → starts_with nat_eq (name_of e) (front_of e) ≡ true
unfolding front_of file_name folder_name key_name value_name shortcut_name variable_name client_name product_name system_name
name_begins (entry.File f) = refl
name_begins (entry.Folder t) = refl
name_begins (entry.Value k v) = refl
name_begins (entry.Key r t) = refl
name_begins (entry.Shortcut s) = refl
name_begins (entry.Variable v) = refl
name_begins (entry.Client c) = refl
name_begins (entry.Product p) = refl
name_begins (entry.System p t) = refl

named : (e : Entry) → (rest : Name) × (name_of e ≡ letter e ∷ rest)
unfolding file_name folder_name key_name value_name shortcut_name variable_name client_name product_name system_name
named (entry.File f) = (_, refl)
named (entry.Folder t) = (_, refl)
named (entry.Value k v) = (_, refl)
named (entry.Key r t) = (_, refl)
named (entry.Shortcut s) = (_, refl)
named (entry.Variable v) = (_, refl)
named (entry.Client c) = (_, refl)
named (entry.Product p) = (_, refl)
named (entry.System p t) = (_, refl)

-- what is said of each kind
kind_nothing : (m n : Machine) → different m n ≡ [] → (e : Entry) → differences (front_of e) m n ≡ []
unfolding different front_of
kind_nothing m n none e = by e
  where
    all : AllByRecursion (λ k. kind_text m n k ≡ []) kinds
    all = flat_nothing (kind_text m n) kinds none

    by : (e : Entry) → differences (front_of e) m n ≡ []
    by (entry.Product p) = titled_nothing (codes "Products") _ all.0
    by (entry.File f) = titled_nothing (codes "Files") _ all.1.0
    by (entry.Folder t) = titled_nothing (codes "Folders") _ all.1.1.0
    by (entry.Key r t) = titled_nothing (codes "Registry keys") _ all.1.1.1.0
    by (entry.Value k v) = titled_nothing (codes "Registry values") _ all.1.1.1.1.0
    by (entry.Shortcut s) = titled_nothing (codes "Shortcuts") _ all.1.1.1.1.1.0
    by (entry.Variable v) = titled_nothing (codes "Environment") _ all.1.1.1.1.1.1.0
    by (entry.Client c) = titled_nothing (codes "Clients") _ all.1.1.1.1.1.1.1.0
    by (entry.System p t) = titled_nothing (codes "System") _ all.1.1.1.1.1.1.1.1.0

-- the lines at the name of an entry of either
lines_same : (m n : Machine) → different m n ≡ [] → (q : Name) (e : Entry) → name_of e ≡ q → (is_some (get m q) ≡ true) ⊎ (is_some (get n q) ≡ true) → line_at m q ≡ line_at n q
lines_same m n none q e is held =
    let begins : starts_with nat_eq q (front_of e) ≡ true = ap (λ (p : Name). starts_with nat_eq p (front_of e)) (sym is) ∙ name_begins e in
    let nothing = flat_nothing (difference m n) (names_of_either (front_of e) m n) (kind_nothing m n none e) in
    change_nothing (line_at m q) (line_at n q) (all_at (λ p. difference m n p ≡ []) (names_of_either (front_of e) m n) q nothing (either_name m n (front_of e) q begins held))

-- ---- entries

file_spread : (f : FileEntry) → file_line f ++ [] ≡ field f.shown ++ (details f ++ [])
unfolding file_line
file_spread f = append_assoc (field f.shown) (details f) []

file_exact : (f g : FileEntry) → IsSmallFile f → IsSmallFile g → (length f.bytes ≡ length g.bytes → md5 f.bytes ≡ md5 g.bytes → f.bytes ≡ g.bytes) → file_line f ≡ file_line g → f ≡ g
file_exact f g sf sg told e =
    let spread_f = details_spread (head_of f) (md5 f.bytes) [] in
    let spread_g = details_spread (head_of g) (md5 g.bytes) [] in
    let path = field_tab f.shown g.shown _ _ (sym (file_spread f ∙ ap (λ (l : List ℕ). field f.shown ++ l) spread_f) ∙ ap (λ (l : List ℕ). l ++ []) e ∙ file_spread g ∙ ap (λ (l : List ℕ). field g.shown ++ l) spread_g) in
    let same = details_apart (head_of f) (head_of g) (md5 f.bytes) (md5 g.bytes) [] [] (head_is f sf) (head_is g sg) (spread_f ∙ ap (λ (l : List ℕ). 9 ∷ l) path.1 ∙ sym spread_g) in
    let bytes = told same.length same.hash in
    λ i. record { shown = path.0 i; version = same.version i; languages = same.languages i; created = same.created i; modified = same.modified i; attributes = same.attributes i; bytes = bytes i }

-- an entry is a file, or its line is that of another entry
data Sort (e : Entry) : Type 0 where
  Filed : (f : FileEntry) → e ≡ entry.File f → Sort e
  Plain : ¬ IsFile e → entry_line e ≡ other_line e → Sort e

sort_of : (e : Entry) → Sort e
sort_of (entry.File f) = Filed f refl
sort_of (entry.Folder t) = Plain (λ x. x) refl
sort_of (entry.Value k v) = Plain (λ x. x) refl
sort_of (entry.Key r t) = Plain (λ x. x) refl
sort_of (entry.Shortcut s) = Plain (λ x. x) refl
sort_of (entry.Variable v) = Plain (λ x. x) refl
sort_of (entry.Client c) = Plain (λ x. x) refl
sort_of (entry.Product p) = Plain (λ x. x) refl
sort_of (entry.System p t) = Plain (λ x. x) refl

file_letter : (e : Entry) → letter e ≡ 102 → ¬ IsFile e → ⊥
file_letter (entry.File f) is not = not tt
file_letter (entry.Folder t) is not = let z : ⊥ = omega (arith, is) in z
file_letter (entry.Value k v) is not = let z : ⊥ = omega (arith, is) in z
file_letter (entry.Key r t) is not = let z : ⊥ = omega (arith, is) in z
file_letter (entry.Shortcut s) is not = let z : ⊥ = omega (arith, is) in z
file_letter (entry.Variable v) is not = let z : ⊥ = omega (arith, is) in z
file_letter (entry.Client c) is not = let z : ⊥ = omega (arith, is) in z
file_letter (entry.Product p) is not = let z : ⊥ = omega (arith, is) in z
file_letter (entry.System p t) is not = let z : ⊥ = omega (arith, is) in z

module _ (m n : Machine) (shown_m : IsShown m) (shown_n : IsShown n) (told : ToldByHash m n) (q : Name) where
  same_letter : (e f : Entry) → name_of e ≡ q → name_of f ≡ q → letter e ≡ letter f
  same_letter e f ie jf = let a = named e in let b = named f in heads (letter e) (letter f) a.0 b.0 (sym a.1 ∙ ie ∙ sym jf ∙ b.1)

  -- what is known of an entry there
  abbrev IsKnown : Entry → Type 0
  IsKnown e = (name_of e ≡ q) × Fits e × (length (bytes_of_file (Some e)) < 2 ^ 64)

  small : (e : Entry) (f : FileEntry) → IsKnown e → e ≡ entry.File f → IsSmallFile f
  small e f known is = (subst (λ (x : Entry). Fits x) is known.1, subst (λ (x : Entry). length (bytes_of_file (Some x)) < 2 ^ 64) is known.2)

  by_sorts : (e f : Entry) → IsKnown e → IsKnown f → get m q ≡ Some e → get n q ≡ Some f → entry_line e ≡ entry_line f → Sort e → Sort f → e ≡ f
  by_sorts e f ke kf at_m at_n line (Filed g is) (Filed h js) =
      let one = file_exact g h (small e g ke is) (small f h kf js) (told q g h (at_m ∙ ap (λ (x : Entry). Some x) is) (at_n ∙ ap (λ (x : Entry). Some x) js)) (sym (ap entry_line is) ∙ line ∙ ap entry_line js) in
      is ∙ ap (λ (x : FileEntry). entry.File x) one ∙ sym js
  by_sorts e f ke kf at_m at_n line (Filed g is) (Plain not same) = absurd (file_letter f (sym (same_letter e f ke.0 kf.0) ∙ ap letter is) not)
  by_sorts e f ke kf at_m at_n line (Plain not same) (Filed h js) = absurd (file_letter e (same_letter e f ke.0 kf.0 ∙ ap letter js) not)
  by_sorts e f ke kf at_m at_n line (Plain not same) (Plain not_f same_f) = lines_exact e f ke.1 kf.1 not (same_letter e f ke.0 kf.0) (sym same ∙ line ∙ same_f)

  entries_same : (e f : Entry) → get m q ≡ Some e → get n q ≡ Some f → entry_line e ≡ entry_line f → e ≡ f
  entries_same e f at_m at_n line = by_sorts e f (shown_m q e at_m) (shown_n q f at_n) at_m at_n line (sort_of e) (sort_of f)

is_there : (x : Option Entry) (e : Entry) → x ≡ Some e → is_some x ≡ true
is_there x e at = ap is_some at

some_lines : (e f : Entry) → Some (entry_line e) ≡ Some (entry_line f) → entry_line e ≡ entry_line f
some_lines e f is = cc

pub nothing_in_one : NothingDiffersInOne
nothing_in_one m n shown_m shown_n told none = same m n (λ q. by q (get m q) (get n q) refl refl)
  where
    lines : (q : Name) (a b : Option Entry) → get m q ≡ a → get n q ≡ b → line_at m q ≡ line_at n q → option_map entry_line a ≡ option_map entry_line b
    lines q a b at_m at_n line = sym (ap (option_map entry_line) at_m) ∙ line ∙ ap (option_map entry_line) at_n

    by : (q : Name) (a b : Option Entry) → get m q ≡ a → get n q ≡ b → get m q ≡ get n q
    by q None None at_m at_n = at_m ∙ sym at_n
    by q (Some e) None at_m at_n =
        let line = lines q (Some e) None at_m at_n (lines_same m n none q e (shown_m q e at_m).0 (inl (is_there (get m q) e at_m))) in
        let clash : true ≡ false = ap is_some line in absurd cc
    by q None (Some f) at_m at_n =
        let line = lines q None (Some f) at_m at_n (lines_same m n none q f (shown_n q f at_n).0 (inr (is_there (get n q) f at_n))) in
        let clash : false ≡ true = ap is_some line in absurd cc
    by q (Some e) (Some f) at_m at_n =
        let line = lines q (Some e) (Some f) at_m at_n (lines_same m n none q e (shown_m q e at_m).0 (inl (is_there (get m q) e at_m))) in
        at_m ∙ ap (λ (x : Entry). Some x) (entries_same m n shown_m shown_n told q e f at_m at_n (some_lines e f line)) ∙ sym at_n
