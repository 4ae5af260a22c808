-- What features say of the components that they hold, one row after the other.
use Rattle.std.proofs.Common.{◌≡◌, ℕ, ◌&&◌, ◌||◌, Bool, true, false, cond, List, ◌∷◌, Option, Some, refl, sym, ap, ◌∙◌, inl, inr}
use Rattle.std.specs.Prelude.{unwrap_or}
use Rattle.std.specs.BTreeSet.{BTreeSet}
use Rattle.std.proofs.lemmas.Bool.{cases_Bool}
use Rattle.mi_text.specs.Maps.{Name, same_name}
use Rattle.mi_text.proofs.MapLemmas.{from_same}
use Rattle.mi_schema.specs.declared.typed_rows.FeatureRow.{FeatureRow}
use Rattle.mi_schema.specs.declared.typed_rows.FeatureComponentsRow.{FeatureComponentsRow}
use Rattle.mi_wishes.specs.declared.choice.FeatureChoice.{FeatureChoice}
use Rattle.mi_components.specs.declared.holders.Holders.{Holders}
use Rattle.mi_components.specs.Holders.{nobody, both, said_in, all_say}

holders_parts : (a b : Holders) → a.local ≡ b.local → a.reinstalled ≡ b.reinstalled → a.wanted ≡ b.wanted → a.recorded ≡ b.recorded → a ≡ b
holders_parts a b e f g h = λ i. record { local = e i; reinstalled = f i; wanted = g i; recorded = h i }

or_assoc : (a b c : Bool) → ((a || b) || c) ≡ (a || (b || c))
or_assoc true b c = refl
or_assoc false b c = refl

or_none : (a : Bool) → (a || false) ≡ a
or_none true = refl
or_none false = refl

both_assoc : (a b c : Holders) → both (both a b) c ≡ both a (both b c)
both_assoc a b c = holders_parts (both (both a b) c) (both a (both b c)) (or_assoc a.local b.local c.local) (or_assoc a.reinstalled b.reinstalled c.reinstalled) (or_assoc a.wanted b.wanted c.wanted) (or_assoc a.recorded b.recorded c.recorded)

pub both_nobody : (a : Holders) → both a nobody ≡ a
both_nobody a = holders_parts (both a nobody) a (or_none a.local) (or_none a.reinstalled) (or_none a.wanted) (or_none a.recorded)

-- what stands at a name after one was put there
pub put_at : (b : Bool) (h : Holders) (o : Option Holders) → unwrap_or (cond b (Some h) o) nobody ≡ cond b h (unwrap_or o nobody)
put_at true h o = refl
put_at false h o = refl

pub added_there : (q n : Name) (f : Name → Holders) (h all : Holders) → all ≡ both (f n) h → cond (same_name q n) all (f q) ≡ cond (same_name q n) (both (f q) h) (f q)
added_there q n f h all is = elim (cases_Bool (same_name q n)) [
  | inl on ↦ ap (λ x. cond (same_name q n) x (f q)) (is ∙ ap (λ (k : Name). both (f k) h) (sym (from_same q n on)))
  | inr off ↦ ap (λ b. cond b all (f q)) off ∙ sym (ap (λ b. cond b (both (f q) h) (f q)) off)
]

module _ (features : List FeatureRow) (choices : List FeatureChoice) (recorded : BTreeSet (List ℕ)) where
  abbrev row_says : Bool → Holders → Holders → Holders
  row_says b h rest = record {
    local = (b && h.local) || rest.local;
    reinstalled = (b && h.reinstalled) || rest.reinstalled;
    wanted = (b && h.wanted) || rest.wanted;
    recorded = (b && h.recorded) || rest.recorded;
  }

  by_row : (b : Bool) (h old rest : Holders) → both (cond b (both old h) old) rest ≡ both old (row_says b h rest)
  by_row true h old rest = both_assoc old h rest
  by_row false h old rest = refl

  -- one row more
  pub say_more : (q : Name) (r : FeatureComponentsRow) (s t : List FeatureComponentsRow) (old new all : Holders) → s ≡ r ∷ t
      → new ≡ cond (same_name q r.component) (both old (said_in features choices recorded r)) old → both old (all_say features choices recorded s q) ≡ all → both new (all_say features choices recorded t q) ≡ all
  say_more q r s t old new all next is so =
      ap (λ (h : Holders). both h (all_say features choices recorded t q)) is
      ∙ by_row (same_name q r.component) (said_in features choices recorded r) old (all_say features choices recorded t q)
      ∙ sym (ap (λ (l : List FeatureComponentsRow). both old (all_say features choices recorded l q)) next) ∙ so
