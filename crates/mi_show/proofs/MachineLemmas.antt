-- The entries of a machine by the fronts of their names, and that their prints make the machine.
use Rattle.std.proofs.Common.{◌≡◌, ℕ, Bool, true, false, cond, ◌||◌, ◌⊎◌, inl, inr, List, [], ◌∷◌, ◌++◌, drop, Option, Some, None, refl, sym, ap, subst, ◌∙◌, eq-eqb, codes}
use Rattle.std.specs.Prelude.{filter, nat_eq, is_some, ◌&&◌}
use Rattle.std.specs.List.{flat_map, filter_map, cons_option, starts_with, AllByRecursion}
use Rattle.std.specs.FinMap.{get, keys}
use Rattle.mi_text.specs.Maps.{Name, same_name, is_among}
use Rattle.mi_text.proofs.MapLemmas.{from_same, same_itself, same, among-keys}
use Rattle.mi_base.specs.declared.entry.Entry.{Entry}
use Rattle.mi_base.specs.declared.entry.Entry.TheVariants as entry
use Rattle.mi_base.specs.Names.{file_name, folder_name, key_name, value_name, shortcut_name, variable_name, client_name, product_name, system_name}
use Rattle.mi_base.specs.Spelling.{name_of}
use Rattle.mi_base.specs.Machine.{Machine, Fits, IsMachine}
use Rattle.mi_image.proofs.PrefixLemmas.{starts_is}
use Rattle.mi_print.specs.Entries.{other_line}
use Rattle.mi_show.specs.Prints.{other_at, lines}
use Rattle.mi_print.specs.Laws.{letter}
use Rattle.mi_print.proofs.CodeLemmas.{heads}

-- ---- the first letter of a name

abbrev pub front_of : ℕ → Name
front_of c = c ∷ 47 ∷ []

rest_of : Entry → List ℕ
rest_of e = drop 2 (name_of e)

named : (e : Entry) → name_of e ≡ letter e ∷ 47 ∷ drop 2 (name_of e)
unfolding file_name folder_name key_name value_name shortcut_name variable_name client_name product_name system_name
named (entry.File f) = refl
named (entry.Folder t) = refl
named (entry.Value k v) = refl
named (entry.Key r t) = refl
named (entry.Shortcut s) = refl
named (entry.Variable v) = refl
named (entry.Client c) = refl
named (entry.Product p) = refl
named (entry.System p t) = refl

pub letter_is : (e : Entry) (c : ℕ) → starts_with nat_eq (name_of e) (front_of c) ≡ true → letter e ≡ c
letter_is e c starts = heads (letter e) c _ _ (sym (named e) ∙ starts_is (name_of e) (front_of c) starts)

itself : (x : ℕ) → nat_eq x x ≡ true
itself x = eq-eqb x x refl

pub starts_so : (e : Entry) → starts_with nat_eq (name_of e) (front_of (letter e)) ≡ true
starts_so e =
    ap (λ (n : Name). starts_with nat_eq n (front_of (letter e))) (named e)
    ∙ ap (λ (t : Bool). t && true) (itself (letter e))

-- ---- lists

abbrev pub Among : {X : Type 0} → X → List X → Type 0
Among e [] = ⊥
Among e (x ∷ xs) = (x ≡ e) ⊎ Among e xs

pub of_all : {X : Type 0} → (R : X → Type 0) (e : X) (xs : List X) → AllByRecursion R xs → Among e xs → R e
of_all R e [] all none = absurd none
of_all R e (x ∷ xs) all (inl is) = subst R is all.0
of_all R e (x ∷ xs) all (inr more) = of_all R e xs all.1 more

-- what the names that pass give
module _ {Y : Type 0} (at : Name → Option Y) (test : Name → Bool) where
  abbrev pub given : List Name → List Y
  given names = filter_map at (filter test names)

  among_cons : (o : Option Y) (y : Y) (ys : List Y) → Among y ys → Among y (cons_option o ys)
  among_cons None y ys more = more
  among_cons (Some x) y ys more = inr more

  among_more : (n : Name) (y : Y) (names : List Name) → Among y (given names) → Among y (given (n ∷ names))
  among_more n y names more = elim (test n) as (λ t. Among y (filter_map at (cond t (n ∷ filter test names) (filter test names)))) [
    | true ↦ among_cons (at n) y (given names) more
    | false ↦ more
  ]

  pub given_among : (q : Name) (y : Y) (names : List Name) → is_among q names ≡ true → test q ≡ true → at q ≡ Some y → Among y (given names)
  given_among q y [] there passes is = absurd cc
  given_among q y (n ∷ names) there passes is = elim (same_name q n) as (λ t. same_name q n ≡ t → (t || is_among q names) ≡ true → Among y (given (n ∷ names))) [
    | true ↦ λ t all.
        let here : q ≡ n = from_same q n t in
        let step : given (n ∷ names) ≡ y ∷ given names = ap (λ (k : Bool). filter_map at (cond k (n ∷ filter test names) (filter test names))) (ap test (sym here) ∙ passes) ∙ ap (λ (o : Option Y). cons_option o (given names)) (ap at (sym here) ∙ is) in
        subst (Among y) (sym step) (inl refl)
    | false ↦ λ t rest. among_more n y names (given_among q y names rest passes is)
  ] refl there

  pub all_given : (R : Y → Type 0) → ((q : Name) (y : Y) → test q ≡ true → at q ≡ Some y → R y) → (names : List Name) → AllByRecursion R (given names)
  all_given R each [] = tt
  all_given R each (n ∷ names) = elim (test n) as (λ t. test n ≡ t → AllByRecursion R (filter_map at (cond t (n ∷ filter test names) (filter test names)))) [
    | true ↦ λ t. elim (at n) as (λ o. at n ≡ o → AllByRecursion R (cons_option o (given names))) [
      | None ↦ λ o. all_given R each names
      | Some y ↦ λ o. (each n y t o, all_given R each names)
    ] refl
    | false ↦ λ t. all_given R each names
  ] refl

  abbrev pub text_or_none : (Y → List ℕ) → Option Y → List ℕ
  text_or_none text None = []
  text_or_none text (Some y) = text y

  -- the text of the names that pass is that of what they give
  pub given_text : (text : Y → List ℕ) (whole : Name → List ℕ) (names : List Name) → ((q : Name) → is_among q names ≡ true → test q ≡ true → whole q ≡ text_or_none text (at q)) → flat_map whole (filter test names) ≡ flat_map text (given names)
  given_text text whole [] same = refl
  given_text text whole (n ∷ names) same =
      let rest : flat_map whole (filter test names) ≡ flat_map text (given names) = given_text text whole names (λ q there passes. same q (ap (λ (t : Bool). same_name q n || t) there ∙ or_true (same_name q n)) passes) in
      elim (test n) as (λ t. test n ≡ t → flat_map whole (cond t (n ∷ filter test names) (filter test names)) ≡ flat_map text (filter_map at (cond t (n ∷ filter test names) (filter test names)))) [
        | true ↦ λ t.
            let here : whole n ≡ text_or_none text (at n) = same n (ap (λ (k : Bool). k || is_among n names) (same_itself n)) t in
            (λ i. here i ++ rest i) ∙ by_option (at n)
        | false ↦ λ t. rest
      ] refl
    where
      or_true : (b : Bool) → (b || true) ≡ true
      or_true true = refl
      or_true false = refl

      by_option : (o : Option Y) → text_or_none text o ++ flat_map text (given names) ≡ flat_map text (cons_option o (given names))
      by_option None = refl
      by_option (Some y) = refl

-- ---- the entries of a kind

abbrev pub starts : ℕ → Name → Bool
starts c q = starts_with nat_eq q (front_of c)

abbrev pub entries_at : ℕ → Machine → List Entry
entries_at c m = given (λ q. get m q) (starts c) (keys m)

-- an entry of this kind that has a record
abbrev pub IsOf : ℕ → Entry → Type 0
IsOf c e = (letter e ≡ c) × Fits e

pub are_of : (c : ℕ) (m : Machine) → IsMachine m → AllByRecursion (IsOf c) (entries_at c m)
are_of c m is = all_given (λ q. get m q) (starts c) (IsOf c) (λ q e passes at. let right = is q e at in (letter_is e c (ap (starts c) right.0 ∙ passes), right.1)) (keys m)

pub stand_so : (c : ℕ) (m : Machine) → IsMachine m → AllByRecursion (λ e. get m (name_of e) ≡ Some e) (entries_at c m)
stand_so c m is = all_given (λ q. get m q) (starts c) (λ e. get m (name_of e) ≡ Some e) (λ q e passes at. let right = is q e at in ap (λ (n : Name). get m n) right.0 ∙ at) (keys m)

pub is_listed : (m : Machine) (e : Entry) → get m (name_of e) ≡ Some e → Among e (entries_at (letter e) m)
is_listed m e at = given_among (λ q. get m q) (starts (letter e)) (name_of e) e (keys m) (sym (among-keys m (name_of e)) ∙ ap is_some at) (starts_so e) at

abbrev pub line : Entry → List ℕ
line e = codes "  " ++ other_line e

pub lines_text : (c : ℕ) (m : Machine) → lines (front_of c) m ≡ flat_map line (entries_at c m)
lines_text c m = given_text (λ q. get m q) (starts c) line (λ q. codes "  " ++ other_at (get m q)) (keys m) (λ q there passes. held q (get m q) refl (among-keys m q ∙ there))
  where
    held : (q : Name) (o : Option Entry) → get m q ≡ o → is_some (get m q) ≡ true → codes "  " ++ other_at o ≡ text_or_none (λ q. get m q) (starts c) line o
    held q None at some = let z : false ≡ true = sym (ap is_some at) ∙ some in absurd cc
    held q (Some e) at some = refl

-- two machines of which each entry of one stands in the other are one
pub one_machine : (m n : Machine) → IsMachine m → IsMachine n → ((e : Entry) → get m (name_of e) ≡ Some e → get n (name_of e) ≡ Some e) → ((e : Entry) → get n (name_of e) ≡ Some e → get m (name_of e) ≡ Some e) → m ≡ n
one_machine m n im in_ there back = same m n (λ q. by_entry q (get m q) (get n q) refl refl)
  where
    by_entry : (q : Name) (o p : Option Entry) → get m q ≡ o → get n q ≡ p → get m q ≡ get n q
    by_entry q None None at bt = at ∙ sym bt
    by_entry q (Some e) p at bt = let named : name_of e ≡ q = (im q e at).0 in at ∙ sym (ap (λ (k : Name). get n k) (sym named) ∙ there e (ap (λ (k : Name). get m k) named ∙ at))
    by_entry q None (Some e) at bt = let named : name_of e ≡ q = (in_ q e bt).0 in ap (λ (k : Name). get m k) (sym named) ∙ back e (ap (λ (k : Name). get n k) named ∙ bt) ∙ sym bt
