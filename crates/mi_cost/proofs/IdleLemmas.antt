-- Where no row touches a name, planned scripts have no record.
use Rattle.std.proofs.Common.{◌≡◌, ℕ, Bool, List, [], ◌∷◌, ◌++◌, refl, sym, ap, ◌∙◌, ◌||◌, true≢false}
use Rattle.std.specs.List.{All}
use Rattle.std.proofs.lemmas.List.Elements.{All-nil, All-cons}
use Rattle.mi_text.specs.Maps.{Map, is_among}
use Rattle.mi_text.proofs.MapLemmas.{same_itself}
use Rattle.mi_base.specs.Machine.{Machine, volume_of}
use Rattle.mi_source.specs.Paths.{Files}
use Rattle.mi_script.specs.declared.rec.Rec.{Rec}
use Rattle.mi_script.specs.Scripts.{script_changes}
use Rattle.mi_model.specs.PhaseRows.{after_rows}
use Rattle.mi_model.specs.Walk.{Part}
use Rattle.mi_model.specs.Plans.{Planned, ArePlanned}
use Rattle.mi_cost.specs.CostLaw.{NothingIsWritten}
use Rattle.mi_cost.proofs.CostOfChanges.{Segment, all_changes, names_changed}
use Rattle.mi_cost.proofs.NameLemmas.{Alike}
use Rattle.mi_cost.proofs.RowLemmas.{row_changes}
use Rattle.mi_cost.proofs.WholeLemmas.{segments_of, same_names}

-- a list with no names among it has none
no_names : (changes : Segment) → Alike [] (names_changed changes) → changes ≡ []
no_names [] alike = refl
no_names (c ∷ cs) alike = absurd (true≢false (sym (ap (λ (b : Bool). b || is_among c.at (names_changed cs)) (same_itself c.at)) ∙ sym (alike c.at)))

first_of : (a b : Segment) → a ++ b ≡ [] → a ≡ []
first_of [] b none = refl
first_of (x ∷ a) b none = absurd (cc)

rest_of : (a b : Segment) → a ++ b ≡ [] → b ≡ []
rest_of [] b none = none
rest_of (x ∷ a) b none = absurd (cc)

-- a script without a change has no record
no_records : (files : Files) (d : Map (List ℕ)) (rs : List Rec) → script_changes files d rs ≡ [] → rs ≡ []
no_records files d [] none = refl
no_records files d (r ∷ rs) none = absurd (cc)

all_idle : (files : Files) (m : Machine) (parts : List Part) (plans : List Planned) → ArePlanned files m parts plans → all_changes (segments_of m parts) ≡ [] → All (λ (p : Planned). p.records ≡ []) plans
all_idle files m [] [] are none = All-nil (λ (p : Planned). p.records ≡ [])
all_idle files m [] (x ∷ plans) are none = absurd are
all_idle files m (p ∷ parts) [] are none = absurd are
all_idle files m (p ∷ parts) (x ∷ plans) are none =
    let rest = all_changes (segments_of (after_rows m p.rows) parts) in
    All-cons (λ (y : Planned). y.records ≡ []) x plans
    (no_records files (volume_of m) x.records (are.0.spells.is ∙ first_of (row_changes m p.rows) rest none))
    (all_idle files (after_rows m p.rows) parts plans are.1 (rest_of (row_changes m p.rows) rest none))

pub nothing_is_written : NothingIsWritten
nothing_is_written files m parts plans plain are nothing =
    all_idle files m parts plans are (no_names (all_changes (segments_of m parts)) (λ q. ap (is_among q) (sym nothing) ∙ same_names m parts plain q))
