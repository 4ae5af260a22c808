-- Segments without a record.
use Rattle.std.proofs.Common.{◌≡◌, zero, suc, eqb, true, List, [], ◌∷◌, length, refl, ap, ◌∙◌, arith}
use Rattle.std.proofs.lemmas.Bool.{eqb-true}
use Rattle.std.proofs.lemmas.List.{nil_from_length}
use Rattle.mi_volume.specs.Maps.{Map}
use Rattle.mi_source.specs.Paths.{Files}
use Rattle.mi_script.specs.declared.rec.Rec.{Rec}
use Rattle.mi_script.specs.Scripts.{after_script}
use Rattle.mi_model.specs.Plans.{Planned}
use Rattle.mi_carry.specs.Segments.{after_segments, HaveNoRecord}

-- no record leaves a map as it is
nothing : (files : Files) (d : Map) (rs : List Rec) → rs ≡ [] → after_script files d rs ≡ d
nothing files d [] is = refl
nothing files d (r ∷ rs) is = cc

pub idle_map : (files : Files) (d : Map) (parts : List Planned) → HaveNoRecord parts → after_segments files d parts ≡ d
idle_map files d [] none = refl
idle_map files d (p ∷ parts) none =
    ap (λ (e : Map). after_segments files e parts) (nothing files d p.records (none zero p (omega arith))) ∙ idle_map files d parts (λ k x below. none (suc k) x (omega (arith, below)))

-- by the number of the records
pub is_none : (rs : List Rec) → eqb (length rs) 0 ≡ true → rs ≡ []
is_none rs is = nil_from_length rs (eqb-true (length rs) 0 is)
