use Rattle.std.proofs.Common.{◌≡◌, ◌∷◌, [], ℕ, List, Option, Some, None, sym, ap, ◌∙◌}
use Rattle.std.specs.Prelude.{◌==◌, option_and_then}
use Rattle.std.specs.List.{list_any}
use Rattle.std.specs.Option.{option_copied}
use Rattle.std.specs.Bool.{if◌then◌else◌}
use Rattle.mi_source.specs.Paths.{behind, slash, part_alone}
use Rattle.mi_source.proofs.FileLemmas.{stripped}
use Rattle.mi_source.proofs.mem_source.name_of.Goals as goal

pub returns-in_err-inside : goal.returns-in_err-inside
returns-in_err-inside c =
    let none : None ≡ behind c.args.folder.now c.args.path.now = ap option_copied (sym c.in_err-inside.was) ∙ stripped _ _ c.strip_prefix.result c.strip_prefix.ensures.cases in
    ap option_copied c.from_residual.ensures ∙ ap (λ (o : Option (List ℕ)). option_and_then part_alone (option_and_then (behind (slash ∷ [])) o)) none

pub returns : goal.returns
returns c =
    let inside : Some c.in_ok-inside.inside.now ≡ behind c.args.folder.now c.args.path.now = ap option_copied (sym c.in_ok-inside.was) ∙ stripped _ _ c.strip_prefix.result c.strip_prefix.ensures.cases in
    let name : Some c.in_ok-name.name.now ≡ behind (slash ∷ []) c.in_ok-inside.inside.now = ap option_copied (sym c.in_ok-name.was) ∙ stripped (slash ∷ []) c.in_ok-inside.inside.now c.strip_prefix-2.result c.strip_prefix-2.ensures.cases in
    let alone : Some c.in_ok-name.name.now ≡ part_alone c.in_ok-name.name.now =
    sym (ap (λ b. if b then None else Some c.in_ok-name.name.now) (sym (ap (list_any (λ (b : ℕ). b == slash)) c.as_bytes.ensures.value) ∙ sym c.contains.ensures.value ∙ c.if-contains.false)) in
    alone ∙ ap (option_and_then part_alone) name ∙ ap (λ (o : Option (List ℕ)). option_and_then part_alone (option_and_then (behind (slash ∷ [])) o)) inside
