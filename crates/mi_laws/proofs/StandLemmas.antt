-- What stands at a name, while rows that don't take it go over it.
use Rattle.std.proofs.Common.{◌≡◌, ℕ, Bool, true, false, ◌||◌, List, [], ◌∷◌, Option, Some, None, refl, sym, ap, ◌∙◌}
use Rattle.std.specs.Prelude.{◌&&◌, nat_eq, codes}
use Rattle.std.specs.List.{list_any, starts_with}
use Rattle.std.proofs.lemmas.Bool.{eqb-true}
use Rattle.mi_text.specs.Maps.{Name}
use Rattle.mi_base.specs.declared.entry.Entry.{Entry}
use Rattle.mi_base.specs.Names.{value_name}
use Rattle.mi_model.specs.Texts.{Text}
use Rattle.mi_model.specs.World.{Effect}
use Rattle.mi_model_laws.specs.PhaseLaws.{in_turn, ChangesOnly}
use Rattle.mi_laws.specs.ValueLaws.{KeepsValues}
use Rattle.mi_laws.specs.ClientLaws.{KeepsClients}

-- something stands there
abbrev pub Stands : Option Entry → Type 0
Stands (Some e) = Unit {0}
Stands None = ⊥

pub what_stands : (o : Option Entry) → Stands o → (e : Entry) × (o ≡ Some e)
what_stands (Some e) s = (e, refl)
what_stands None s = absurd s

pub left_none : (a b : Bool) → (a || b) ≡ false → a ≡ false
left_none true b e = e
left_none false b e = refl

pub right_none : (a b : Bool) → (a || b) ≡ false → b ≡ false
right_none true b e = cc
right_none false b e = e

-- what isn't false is true
pub else_true : (b : Bool) → (b ≡ false → ⊥) → b ≡ true
else_true true isnt = refl
else_true false isnt = absurd (isnt refl)

-- rows none of which takes it
pub stays : {R : Type 0} → (step : R → Option Entry → Option Entry) (takes : R → Bool) → ((r : R) → takes r ≡ false → (e : Entry) → Stands (step r (Some e)))
    → (rows : List R) (old : Option Entry) → Stands old → list_any takes rows ≡ false → Stands (in_turn step rows old)
stays step takes each [] old s none = s
stays step takes each (r ∷ rows) None s none = absurd s
stays step takes each (r ∷ rows) (Some e) s none =
    stays step takes each rows (step r (Some e)) (each r (left_none (takes r) (list_any takes rows) none) e) (right_none (takes r) (list_any takes rows) none)

-- ---- phases that leave names of a kind alone

pub no_value_in : (fronts : List Text) (effect : Effect) → ChangesOnly fronts effect → ((root : ℕ) (key name : Text) → list_any (starts_with nat_eq (value_name root key name)) fronts ≡ false) → KeepsValues effect
no_value_in fronts effect only none w m after root key name = only w m after (value_name root key name) (none root key name)

both_true : (a b : Bool) → (a && b) ≡ true → a ≡ true
both_true true b e = refl
both_true false b e = e

-- the name of a client row begins with its letter
begins_client : (q : Name) → starts_with nat_eq q (codes "c/") ≡ true → (rest : List ℕ) × (q ≡ 99 ∷ rest)
begins_client [] e = cc
begins_client (a ∷ rest) e = (rest, ap (λ n. n ∷ rest) (sym (eqb-true 99 a (both_true (nat_eq 99 a) _ e))))

pub no_client_in : (fronts : List Text) (effect : Effect) → ChangesOnly fronts effect → ((rest : List ℕ) → list_any (starts_with nat_eq (99 ∷ rest)) fronts ≡ false) → KeepsClients effect
no_client_in fronts effect only none w m after q begins =
    let is = begins_client q begins in
    only w m after q (ap (λ n. list_any (starts_with nat_eq n) fronts) is.1 ∙ none is.0)
