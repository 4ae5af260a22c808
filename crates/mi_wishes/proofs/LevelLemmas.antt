-- The greatest level, one row after the other.
use Rattle.std.proofs.Common.{◌≡◌, ℤ, Bool, true, false, cond, List, [], ◌∷◌, Option, Some, None, refl, sym, ap, ◌∙◌, inl, inr}
use Rattle.std.specs.Prelude.{fold, filter, map}
use Rattle.std.specs.Int.{int_max}
use Rattle.std.proofs.lemmas.Bool.{cases_Bool}
use Rattle.mi_text.specs.Maps.{Name, same_name}
use Rattle.mi_text.proofs.MapLemmas.{from_same}
use Rattle.mi_text.specs.Lookups.{Lookups}
use Rattle.mi_schema.specs.declared.typed_rows.ConditionRow.{ConditionRow}
use Rattle.mi_wishes.specs.Levels.{greatest, raised_by, is_of, levels_in}

abbrev pub raise_all : Option ℤ → List ℤ → Option ℤ
raise_all o [] = o
raise_all o (n ∷ ns) = raise_all (Some (raised_by n o)) ns

raise_on : (m : ℤ) (ns : List ℤ) → raise_all (Some m) ns ≡ Some (fold int_max m ns)
raise_on m [] = refl
raise_on m (n ∷ ns) = raise_on (int_max m n) ns

pub raise_none : (ns : List ℤ) → raise_all None ns ≡ greatest ns
raise_none [] = refl
raise_none (n ∷ ns) = raise_on n ns

-- one row more
pub raise_row : (L : Lookups) (q : Name) (r : ConditionRow) (s t : List ConditionRow) (old new all : Option ℤ) → s ≡ r ∷ t → new ≡ cond (is_of L q r) (Some (raised_by r.level old)) old → raise_all old (levels_in L q s) ≡ all → raise_all new (levels_in L q t) ≡ all
raise_row L q r s t old new all next is so =
    ap (λ (o : Option ℤ). raise_all o (levels_in L q t)) is ∙ by (is_of L q r) refl ∙ sym (ap (λ (l : List ConditionRow). raise_all old (levels_in L q l)) next) ∙ so
  where
    by : (b : Bool) → is_of L q r ≡ b → raise_all (cond b (Some (raised_by r.level old)) old) (levels_in L q t) ≡ raise_all old (levels_in L q (r ∷ t))
    by true e = sym (ap (λ b. raise_all old (map (λ (c : ConditionRow). c.level) (cond b (r ∷ filter (is_of L q) t) (filter (is_of L q) t)))) e)
    by false e = sym (ap (λ b. raise_all old (map (λ (c : ConditionRow). c.level) (cond b (r ∷ filter (is_of L q) t) (filter (is_of L q) t)))) e)

pub raised_there : (q n : Name) (f : Name → Option ℤ) (level r : ℤ) → r ≡ raised_by level (f n) → cond (same_name q n) (Some r) (f q) ≡ cond (same_name q n) (Some (raised_by level (f q))) (f q)
raised_there q n f level r is = elim (cases_Bool (same_name q n)) [
  | inl on ↦ ap (λ x. cond (same_name q n) (Some x) (f q)) (is ∙ ap (λ (k : Name). raised_by level (f k)) (sym (from_same q n on)))
  | inr off ↦ ap (λ b. cond b (Some r) (f q)) off ∙ sym (ap (λ b. cond b (Some (raised_by level (f q))) (f q)) off)
]
