-- What the map has at the place.
use Rattle.std.proofs.Common.{ap, sym, ◌∙◌, option_map}
use Rattle.std.proofs.lemmas.Option.{slice_get-map}
use Rattle.mi_schema.specs.RowsOf.{rows_in}
use Rattle.mi_wishes.proofs.lines.row_at.Goals as goal

pub returns-in-Some : goal.returns-in-Some
unfolding rows_in
returns-in-Some c = ap (option_map (λ e. e.1)) c.in-Some.ensures.entry ∙ sym (slice_get-map (λ e. e.1) c.args.loaded.now.feature.entries c.args.place)

pub returns-in-None : goal.returns-in-None
unfolding rows_in
returns-in-None c = ap (option_map (λ e. e.1)) c.in-None.ensures.entry ∙ sym (slice_get-map (λ e. e.1) c.args.loaded.now.feature.entries c.args.place)
