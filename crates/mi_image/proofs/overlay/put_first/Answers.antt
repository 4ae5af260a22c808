use Rattle.std.proofs.Common.{Some, ◌∙◌}
use Rattle.std.specs.Prelude.{option_map, string_bytes}
use Rattle.mi_image.specs.Items.{unboxed}
use Rattle.mi_image.proofs.OverlayLemmas.{is_set, was_right, noted, returned, on_err, both_stay}
use Rattle.mi_image.proofs.overlay.put_first.Goals as goal

pub note_or_put_back-requires : goal.note_or_put_back-requires
note_or_put_back-requires c = record {
  set = is_set c.args.image.now c.exchange.new.self (string_bytes c.args.keys.0) (string_bytes c.args.keys.1) c.args.item c.in-Ok.ensures.ok c.requires.same;
  may = was_right c.args.image.now (string_bytes c.args.keys.0) (string_bytes c.args.keys.1) (option_map unboxed c.in-Ok.was) c.in-Ok.ensures.right c.in-Ok.ensures.value c.requires.same;
}

pub returns-in_ok-note_or_put_back-in-Ok-clause-ok : goal.returns-in_ok-note_or_put_back-in-Ok-clause-ok
returns-in_ok-note_or_put_back-in-Ok-clause-ok c = c.in_ok-note_or_put_back-in-Ok.ensures.stays ∙ c.in-Ok.ensures.ok

pub returns-in_ok-note_or_put_back-in-Ok-clause-before : goal.returns-in_ok-note_or_put_back-in-Ok-clause-before
returns-in_ok-note_or_put_back-in-Ok-clause-before c =
    noted c.args.image.now c.note_or_put_back.new.image c.args.former.now c.note_or_put_back.new.former (string_bytes c.args.keys.0) (string_bytes c.args.keys.1) (Some c.args.item) (option_map unboxed c.in-Ok.was)
    c.requires.same c.requires.new c.in-Ok.ensures.value (c.in_ok-note_or_put_back-in-Ok.ensures.stays ∙ c.in-Ok.ensures.ok) c.in_ok-note_or_put_back-in-Ok.ensures.noted

pub returns-in_err-note_or_put_back-in-Ok-clause-err : goal.returns-in_err-note_or_put_back-in-Ok-clause-err
returns-in_err-note_or_put_back-in-Ok-clause-err c =
    on_err c.from_residual.result
    (returned c.args.image.now c.exchange.new.self c.note_or_put_back.new.image (string_bytes c.args.keys.0) (string_bytes c.args.keys.1) (Some c.args.item) (option_map unboxed c.in-Ok.was)
    c.requires.same c.in-Ok.ensures.value c.in-Ok.ensures.ok c.in_err-note_or_put_back-in-Ok.ensures.back)

pub returns-in_err-note_or_put_back-in-Ok-clause-before : goal.returns-in_err-note_or_put_back-in-Ok-clause-before
returns-in_err-note_or_put_back-in-Ok-clause-before c =
    both_stay c.args.image.now c.note_or_put_back.new.image c.args.former.now c.note_or_put_back.new.former
    (returned c.args.image.now c.exchange.new.self c.note_or_put_back.new.image (string_bytes c.args.keys.0) (string_bytes c.args.keys.1) (Some c.args.item) (option_map unboxed c.in-Ok.was)
    c.requires.same c.in-Ok.ensures.value c.in-Ok.ensures.ok c.in_err-note_or_put_back-in-Ok.ensures.back)
    c.in_err-note_or_put_back-in-Ok.ensures.err
