-- What each phase does to clients and products, and which actions are no phases of theirs.
use Rattle.std.proofs.Common.{◌≡◌, ℕ, Bool, true, false, ◌||◌, List, [], ◌∷◌, ◌++◌, Some, None, refl, sym, ap, ◌∙◌}
use Rattle.std.proofs.lemmas.Bool.{eqb-true}
use Rattle.std.specs.Prelude.{◌&&◌, nat_eq, codes}
use Rattle.std.specs.List.{list_any, starts_with, AllByRecursion}
use Rattle.std.specs.FinMap.{get}
use Rattle.mi_text.specs.Maps.{Name, same_name, is_among}
use Rattle.mi_text.proofs.MapLemmas.{is_among-append, from_same}
use Rattle.mi_base.specs.Machine.{Machine}
use Rattle.mi_base.specs.Names.{product_name}
use Rattle.mi_model.specs.Texts.{Text}
use Rattle.mi_model.specs.World.{World, Effect}
use Rattle.mi_model.specs.Phases.{phases, effect_of}
use Rattle.mi_model.specs.ProcessComponents.{process_components}
use Rattle.mi_model.specs.PublishProduct.{publish_product}
use Rattle.mi_model_laws.specs.PhaseLaws.{IsAfter, ChangesOnly}
use Rattle.mi_model_laws.proofs.OnlyLemmas.{phases_change_only}
use Rattle.mi_model_laws.specs.OnlyLaws.{files_and_folders, shortcuts_and_folders}
use Rattle.mi_laws.specs.ClientLaws.{KeepsClients}
use Rattle.mi_laws.proofs.ClientLemmas.{clients_go_by_absence}

-- ---- what each phase does to clients and products

abbrev pub processing : Name
processing = codes "ProcessComponents"

abbrev pub publishing : Name
publishing = codes "PublishProduct"

abbrev KeepsProducts : Effect → Type 0
KeepsProducts effect = (w : World) (m : Machine) → IsAfter effect w m → (q : Name) → starts_with nat_eq q (codes "p/") ≡ true → get m q ≡ get w.machine q

pub data PhaseIs (name : Name) (effect : Effect) : Type 0 where
  Other : (not_processing : same_name processing name ≡ false) → (not_publishing : same_name publishing name ≡ false) → (clients : KeepsClients effect) → (products : KeepsProducts effect) → PhaseIs name effect
  Processes : (named : same_name processing name ≡ true) → (not_publishing : same_name publishing name ≡ false) → (products : KeepsProducts effect) → (is : effect ≡ process_components) → PhaseIs name effect
  Publishes : (named : same_name publishing name ≡ true) → (not_processing : same_name processing name ≡ false) → (clients : KeepsClients effect) → (is : effect ≡ publish_product) → PhaseIs name effect

begins_product : (q : Name) → starts_with nat_eq q (codes "p/") ≡ true → (rest : List ℕ) × (q ≡ 112 ∷ rest)
begins_product [] e = cc
begins_product (a ∷ rest) e = (rest, ap (λ n. n ∷ rest) (sym (eqb-true 112 a (first (nat_eq 112 a) _ e))))
  where
    first : (a b : Bool) → (a && b) ≡ true → a ≡ true
    first true b e = refl
    first false b e = e

no_product_in : (fronts : List Text) (effect : Effect) → ChangesOnly fronts effect → ((rest : List ℕ) → list_any (starts_with nat_eq (112 ∷ rest)) fronts ≡ false) → KeepsProducts effect
no_product_in fronts effect only none w m after q begins =
    let is = begins_product q begins in
    only w m after q (ap (λ n. list_any (starts_with nat_eq n) fronts) is.1 ∙ none is.0)

pub phase_kinds : AllByRecursion (λ (p : Name × Effect). PhaseIs p.0 p.1) phases
unfolding phases
phase_kinds =
    let others = clients_go_by_absence.others in (
      Processes refl refl (no_product_in (codes "c/" ∷ codes "v/2" ∷ codes "k" ∷ []) _ phases_change_only.clients_and_counts (λ rest. refl)) refl,
      (
        Other refl refl others.0 (no_product_in (codes "v" ∷ codes "k" ∷ []) _ phases_change_only.removed_values (λ rest. refl)),
        (
          Other refl refl others.1.0 (no_product_in shortcuts_and_folders _ phases_change_only.removed_shortcuts (λ rest. refl)),
          (
            Other refl refl others.1.1.0 (no_product_in (codes "n/" ∷ []) _ phases_change_only.removed_variables (λ rest. refl)),
            (
              Other refl refl others.1.1.1.0 (no_product_in files_and_folders _ phases_change_only.removed_copies (λ rest. refl)),
              (
                Other refl refl others.1.1.1.1.0 (no_product_in files_and_folders _ phases_change_only.removed_files (λ rest. refl)),
                (
                  Other refl refl others.1.1.1.1.1.0 (no_product_in (codes "d/" ∷ []) _ phases_change_only.removed_folders (λ rest. refl)),
                  (
                    Other refl refl others.1.1.1.1.1.1.0 (no_product_in (codes "d/" ∷ []) _ phases_change_only.created_folders (λ rest. refl)),
                    (
                      Other refl refl others.1.1.1.1.1.1.1.0 (no_product_in files_and_folders _ phases_change_only.installed_files (λ rest. refl)),
                      (
                        Other refl refl others.1.1.1.1.1.1.1.1.0 (no_product_in files_and_folders _ phases_change_only.copied_files (λ rest. refl)),
                        (
                          Other refl refl others.1.1.1.1.1.1.1.1.1.0 (no_product_in shortcuts_and_folders _ phases_change_only.created_shortcuts (λ rest. refl)),
                          (
                            Other refl refl others.1.1.1.1.1.1.1.1.1.1.0 (no_product_in (codes "v/" ∷ codes "k/" ∷ []) _ phases_change_only.written_values (λ rest. refl)),
                            (
                              Other refl refl others.1.1.1.1.1.1.1.1.1.1.1.0 (no_product_in (codes "n/" ∷ []) _ phases_change_only.written_variables (λ rest. refl)),
                              (
                                Publishes refl refl others.1.1.1.1.1.1.1.1.1.1.1.1.0 refl,
                                tt,
                              ),
                            ),
                          ),
                        ),
                      ),
                    ),
                  ),
                ),
              ),
            ),
          ),
        ),
      ),
    )

-- ---- names of actions

pub later : (n : Name) (begun : List Name) (action : Name) → is_among n (begun ++ action ∷ []) ≡ (is_among n begun || (same_name n action || false))
later n begun action = is_among-append n begun (action ∷ [])

or_none : (a b : Bool) → b ≡ false → (a || (b || false)) ≡ a
or_none true b e = refl
or_none false true e = cc
or_none false false e = refl

-- one that is named otherwise
pub not_later : (n : Name) (begun : List Name) (action : Name) → same_name n action ≡ false → is_among n (begun ++ action ∷ []) ≡ is_among n begun
not_later n begun action isnt = later n begun action ∙ or_none (is_among n begun) (same_name n action) isnt

pub was_false : (n : Name) (begun : List Name) (action : Name) → is_among n (begun ++ action ∷ []) ≡ false → is_among n begun ≡ false
was_false n begun action e = by (is_among n begun) _ (sym (later n begun action) ∙ e)
  where
    by : (a b : Bool) → (a || b) ≡ false → a ≡ false
    by true b e = cc
    by false b e = refl

pub stays_true : (n : Name) (begun : List Name) (action : Name) → is_among n begun ≡ true → is_among n (begun ++ action ∷ []) ≡ true
stays_true n begun action e = later n begun action ∙ ap (λ a. a || (same_name n action || false)) e

some_effect : {X : Type 0} (action : Name) (effect : Effect) (name : Name) → effect_of name ≡ Some effect → effect_of action ≡ None → same_name name action ≡ true → X
some_effect action effect name is none same = let both = sym (ap effect_of (from_same name action same) ∙ none) ∙ is in cc

effect_processing : effect_of processing ≡ Some process_components
unfolding effect_of phases
effect_processing = refl

effect_publishing : effect_of publishing ≡ Some publish_product
unfolding effect_of phases
effect_publishing = refl

isnt_true : (b : Bool) → (b ≡ true → ⊥) → b ≡ false
isnt_true true isnt = absurd (isnt refl)
isnt_true false isnt = refl

pub no_processing : (action : Name) → effect_of action ≡ None → same_name processing action ≡ false
no_processing action none = isnt_true _ (some_effect action process_components processing effect_processing none)

pub no_publishing : (action : Name) → effect_of action ≡ None → same_name publishing action ≡ false
no_publishing action none = isnt_true _ (some_effect action publish_product publishing effect_publishing none)

pub begins_product_name : (n : ℕ) → starts_with nat_eq (product_name n) (codes "p/") ≡ true
unfolding product_name
begins_product_name n = refl
