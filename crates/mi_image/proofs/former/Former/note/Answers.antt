use Rattle.std.proofs.Common.{◌≡◌, Some, None, ap, subst, ◌∙◌, sym}
use Rattle.std.specs.Prelude.{OnOk, OnErr, option_map, string_bytes}
use Rattle.std.specs.FinMap as map
use Rattle.mi_image.specs.Items.{unboxed}
use Rattle.mi_image.specs.Overlays.{stood_of}
use Rattle.mi_image.proofs.OverlayLemmas.{get-stood, noted_at}
use Rattle.mi_image.proofs.former.Former.note.Goals as goal
use Rattle.mi_image.proofs.former.Former.note.Goals.{in-Ok, in-Err}

pub returns-clause-ok : goal.returns-clause-ok
returns-clause-ok c =
    elim c.match-insert.branch [
      | in-Ok w ↦
          subst (λ r. OnOk r (stood_of c.insert.new.self.entries ≡ map.insert c.args.self.now (string_bytes c.args.key) (option_map unboxed c.args.was))) (sym w.result-is)
          (noted_at c.self.inside.items c.insert.new.self (string_bytes c.args.key) (Some c.args.was) w.in-Ok.ensures.updates
          ∙ ap (λ m. map.insert m (string_bytes c.args.key) (option_map unboxed c.args.was)) c.self.view_is)
      | in-Err w ↦ subst (λ r. OnOk r (stood_of c.insert.new.self.entries ≡ map.insert c.args.self.now (string_bytes c.args.key) (option_map unboxed c.args.was))) (sym w.result-is) tt
    ]

pub returns-clause-absent : goal.returns-clause-absent
returns-clause-absent c =
    elim c.match-insert.branch [
      | in-Ok w ↦ subst (λ r. OnErr r (map.get c.args.self.now (string_bytes c.args.key) ≡ None)) (sym w.result-is) tt
      | in-Err w ↦
          subst (λ r. OnErr r (map.get c.args.self.now (string_bytes c.args.key) ≡ None)) (sym w.result-is)
          (sym (ap (λ m. map.get m (string_bytes c.args.key)) c.self.view_is)
          ∙ get-stood c.self.inside.items.entries (string_bytes c.args.key)
          ∙ ap (option_map (option_map unboxed)) w.in-Err.ensures.absent)
    ]
