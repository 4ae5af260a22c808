-- A text that is no value over the one that stands there.
use Rattle.std.proofs.Common.{◌≡◌, List, ℕ, refl, ap, sym, ◌∙◌}
use Rattle.std.specs.Prelude.{option_map}
use Rattle.std.specs.Option.{option_copied}
use Rattle.mi_base.specs.Machine.{value_at}
use Rattle.mi_image.specs.Items.{machine_over}
use Rattle.mi_regval.specs.Values.{value_of}
use Rattle.mi_records.proofs.value.new_value.Goals as goal

pub returns-in-Err-Fault : goal.returns-in-Err-Fault
returns-in-Err-Fault c = λ held files.
    let m = machine_over held files c.args.image.now in
    let p = c.args.place.now in
    let old : option_copied c.value-old.result ≡ option_map (λ v. v.1) (value_at m p.root p.key p.name) =
    c.value-old.ensures held files
    ∙ ap (λ (r : ℕ). option_map (λ v. v.1) (value_at m r c.key.result.now c.name.result.now)) c.root.ensures.root
    ∙ ap (λ (k : List ℕ). option_map (λ v. v.1) (value_at m p.root k c.name.result.now)) c.key.ensures.key
    ∙ ap (λ (n : List ℕ). option_map (λ v. v.1) (value_at m p.root p.key n)) c.name.ensures.name in
    let read = rw c.in-Err-Fault.field-0-is at c.in-Err-Fault.ensures in
    (refl, c.in-Err-Fault.field-0-0, ap (value_of c.args.text.now) (sym old) ∙ c.change_gives_the_value.ensures.fault c.args.text.now (option_copied c.value-old.result) c.in-Err-Fault.field-0-0 read)
