use Rattle.std.proofs.Common.{◌≡◌, ◌++◌, Option, Some, None, sym, ap, ◌∙◌}
use Rattle.std.specs.Option.{option_to_list}
use Rattle.std.specs.List.{filter_map}
use Rattle.std.specs.BTreeMap as tree
use Rattle.std.specs.Map.Iter.{deref}
use Rattle.std.specs.String.{string_bytes}
use Rattle.std.proofs.lemmas.Map.Iter.{iter_end}
use Rattle.std.proofs.lemmas.List.{append-nil}
use Rattle.mi_text.specs.Maps.{Name}
use Rattle.mi_source.specs.Paths.{name_in}
use Rattle.mi_source.proofs.FileLemmas.{names_more, paths_all}
use Rattle.mi_source.proofs.mem_source.names_of.Goals as goal

pub loop-path-preserved-in_ok-push : goal.loop-path-preserved-in_ok-push
loop-path-preserved-in_ok-push c =
    let found : Some c.in_ok-copy_of.field-0 ≡ name_in c.args.folder.now (string_bytes c.in-Some.path.now) =
    ap Some c.in_ok-copy_of.ensures ∙ c.in-Some-name_of.ensures ∙ ap (name_in c.args.folder.now) c.as_str.ensures.value in
    c.in_ok-push.ensures.items ∙ ap (λ (o : Option Name). c.loop-path.names.items ++ option_to_list o) found
    ∙ names_more c.args.folder.now c.loop-path.yielded c.in-Some.path c.loop-path.names.items c.loop-path.invariant

pub loop-path-preserved : goal.loop-path-preserved
loop-path-preserved c =
    let none : None ≡ name_in c.args.folder.now (string_bytes c.in-Some.path.now) = c.in_default.ensures ∙ ap (name_in c.args.folder.now) c.as_str.ensures.value in
    sym (append-nil c.loop-path.names.items) ∙ ap (λ (o : Option Name). c.loop-path.names.items ++ option_to_list o) none
    ∙ names_more c.args.folder.now c.loop-path.yielded c.in-Some.path c.loop-path.names.items c.loop-path.invariant

pub returns : goal.returns
returns c =
    let all = iter_end deref (tree.keys c.args.files.now) c.loop-path.yielded c.into_iter-path-iterator.result c.loop-path.path-iterator c.next.new.self c.next.result
    (c.into_iter-path-iterator.ensures.into_iter_gives ∙ c.keys-path-items.ensures.rest) c.loop-path.yielded_by c.in-None.is c.next.ensures.steps in
    c.loop-path.invariant ∙ ap (filter_map (name_in c.args.folder.now)) (paths_all c.args.files.now c.loop-path.yielded c.keys-path-items.ensures.ordered all.0)
