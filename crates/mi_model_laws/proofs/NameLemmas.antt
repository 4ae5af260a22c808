-- Names of one kind and of another, by their first letters.
use Rattle.std.proofs.Common.{◌≡◌, Bool, true, false, cond, ◌||◌, List, [], ◌∷◌, Option, refl, sym, ap, ◌∙◌}
use Rattle.std.proofs.lemmas.Bool.{eq-eqb, eqb-true}
use Rattle.std.specs.Prelude.{ℕ, ◌&&◌, nat_eq, codes}
use Rattle.std.specs.List.{starts_with}
use Rattle.mi_text.specs.Maps.{Name, same_name}
use Rattle.mi_text.proofs.MapLemmas.{from_same}
use Rattle.mi_base.specs.declared.entry.Entry.{Entry}
use Rattle.mi_base.specs.Names.{folder_name, key_name, value_name, client_name}
use Rattle.mi_model.specs.Texts.{Text}
use Rattle.mi_model.specs.SharedCounts.{count_name}
use Rattle.mi_model.specs.Prune.{Path, Seat, Apart, goes, seat_goes, key_seat}
use Rattle.mi_model_laws.proofs.ParentLemmas.{IsNoFolder, IsNoKey}

-- a name that begins so is no name that doesn't
pub other_front : (front q n : List ℕ) → starts_with nat_eq n front ≡ true → starts_with nat_eq q front ≡ false → same_name q n ≡ false
other_front front q n is isnt = elim (same_name q n) as (λ b. same_name q n ≡ b → b ≡ false) [
  | true ↦ λ same. sym is ∙ sym (ap (λ (k : List ℕ). starts_with nat_eq k front) (from_same q n same)) ∙ isnt
  | false ↦ λ same. refl
] refl

pub first_isnt : (a b : Bool) → (a || b) ≡ false → a ≡ false
first_isnt true b e = e
first_isnt false b e = refl

pub second_isnt : (a b : Bool) → (a || (b || false)) ≡ false → b ≡ false
second_isnt true b e = cc
second_isnt false true e = e
second_isnt false false e = refl

pub no_folder : (q : Name) → starts_with nat_eq q (codes "d/") ≡ false → IsNoFolder q
unfolding folder_name
no_folder q isnt folder = other_front (codes "d/") q (folder_name folder) refl isnt

pub no_key : (q : Name) → starts_with nat_eq q (codes "k/") ≡ false → IsNoKey q
unfolding key_name
no_key q isnt root key = other_front (codes "k/") q (key_name root key) refl isnt

pub no_value : (q : Name) → starts_with nat_eq q (codes "v/") ≡ false → (root : ℕ) (key name : Text) → same_name q (value_name root key name) ≡ false
unfolding value_name
no_value q isnt root key name = other_front (codes "v/") q (value_name root key name) refl isnt

-- the counts stand under the root of the machine
pub no_count : (q : Name) → starts_with nat_eq q (codes "v/2") ≡ false → (path : Text) → same_name q (count_name path) ≡ false
unfolding value_name
no_count q isnt path = other_front (codes "v/2") q (count_name path) refl isnt

pub no_client : (q : Name) → starts_with nat_eq q (codes "c/") ≡ false → (component product : ℕ) → same_name q (client_name component product) ≡ false
unfolding client_name
no_client q isnt component product = other_front (codes "c/") q (client_name component product) refl isnt

-- ---- what pruning leaves

pub and_true : (b : Bool) → (b && true) ≡ false → b ≡ false
and_true true e = e
and_true false e = refl

pub turned : (a n : ℕ) → nat_eq n a ≡ false → nat_eq a n ≡ false
turned a n isnt = elim (nat_eq a n) as (λ b. nat_eq a n ≡ b → b ≡ false) [
  | true ↦ λ is. sym (eq-eqb n a (sym (eqb-true a n is))) ∙ isnt
  | false ↦ λ is. refl
] refl

pub no_seat : (q : Name) → starts_with nat_eq q (codes "k") ≡ false → starts_with nat_eq q (codes "v") ≡ false → key_seat q ≡ Apart
no_seat [] k v = refl
no_seat (a ∷ []) k v = refl
no_seat (a ∷ b ∷ []) k v = refl
no_seat (a ∷ b ∷ c ∷ rest) k v = by_kind (nat_eq a 107) (nat_eq a 118) _ _ (turned a 107 (and_true (nat_eq 107 a) k)) (turned a 118 (and_true (nat_eq 118 a) v))
  where
    by_kind : (x y : Bool) (holder leaf : Seat) → x ≡ false → y ≡ false → cond x holder (cond y leaf Apart) ≡ Apart
    by_kind true y holder leaf x_isnt y_isnt = cc
    by_kind false true holder leaf x_isnt y_isnt = cc
    by_kind false false holder leaf x_isnt y_isnt = refl

pub prunes_not : (held : List Name) (touched protected : List Path) (q : Name) → key_seat q ≡ Apart → goes key_seat held touched protected q ≡ false
unfolding goes
prunes_not held touched protected q apart = ap (seat_goes key_seat held touched protected) apart

pub unless_named : (b : Bool) (old new : Option Entry) → b ≡ false → cond b new old ≡ old
unless_named true old new e = cc
unless_named false old new e = refl
