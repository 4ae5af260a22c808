use Rattle.std.proofs.Common.{◌≡◌, ℕ, List, [], ◌∷◌, ◌++◌, length, map, take, get_or, None, Some, refl, sym, ap, subst, ◌∙◌, arith}
use Rattle.std.specs.Prelude.{slice_get}
use Rattle.std.proofs.lemmas.List.{take_more, map-append, length-map}
use Rattle.std.proofs.lemmas.Option.{slice_get_read}
use Rattle.mi_dirs.specs.declared.dir.Dir.{Dir}
use Rattle.mi_dirs.specs.declared.rows.DirRow.{DirRow}
use Rattle.mi_dirs.specs.Places.{Place}
use Rattle.mi_dirs.specs.Rows.{parent_of, own_of, source_name}
use Rattle.mi_dirs.specs.Sources.{source_names}
use Rattle.mi_dirs.specs.Views.{own_view, bare, bare_dir, IsFolderOwn, OwnFolders}
use Rattle.mi_dirs.proofs.SourceLemmas.{listed_parent}
use Rattle.mi_dirs.proofs.DirLemmas.{folders-push, bare_made}
use Rattle.mi_dirs.proofs.dirs.dirs_of.Goals as goal

pub loop-number-preserved : goal.loop-number-preserved
loop-number-preserved c =
    let rows = c.args.rows.now in
    let values = c.args.props.now in
    let remembered = c.args.remembered.now in
    let parents = c.args.parents.now in
    let n = c.loop-number.number in
    let r = c.index-rows-number.result in
    let dir = c.in_ok-dir.dir in
    let is : slice_get rows n ≡ Some r = slice_get_read rows (length rows) n r refl c.loop-number-test.true c.index-rows-number.is in
    let size : length parents ≡ length rows = ap length c.requires.parents ∙ length-map rows (parent_of rows) in
    let up : get_or parents n None ≡ parent_of rows r = listed_parent rows parents n r None c.requires.parents (omega arith) is in
    let mine : own_view c.in_ok-own.own ≡ own_of values remembered r.key = c.in_ok-own.ensures.own ∙ ap (own_of values remembered) c.as_str.ensures in
    let here : bare_dir dir ≡ bare rows values remembered r = bare_made rows values remembered r (source_name c.args.short r) (get_or parents n None) c.in_ok-own.own dir c.in_ok-dir.ensures up mine in
    let folder : IsFolderOwn dir.own = subst (λ (d : Dir). IsFolderOwn d.own) (sym c.in_ok-dir.ensures) c.in_ok-own.ensures.folder in (
      ap (map bare_dir) c.in_ok-push.ensures.items
          ∙ map-append bare_dir c.loop-number.dirs.items (dir ∷ [])
          ∙ ap (λ (ps : List Place). ps ++ bare_dir dir ∷ []) c.loop-number.invariant.0
          ∙ ap (λ (p : Place). map (bare rows values remembered) (take n rows) ++ p ∷ []) here
          ∙ sym (ap (map (bare rows values remembered)) (take_more rows n r c.loop-number-test.true ∙ ap (λ (x : DirRow). take n rows ++ x ∷ []) (sym c.index-rows-number.is))
          ∙ map-append (bare rows values remembered) (take n rows) (r ∷ [])),
      ap source_names c.in_ok-push.ensures.items
          ∙ map-append (λ (d : Dir). d.source) c.loop-number.dirs.items (dir ∷ [])
          ∙ ap (λ (ns : List (List ℕ)). ns ++ dir.source ∷ []) c.loop-number.invariant.1
          ∙ ap (λ (d : Dir). map (source_name c.args.short) (take n rows) ++ d.source ∷ []) c.in_ok-dir.ensures
          ∙ sym (ap (map (source_name c.args.short)) (take_more rows n r c.loop-number-test.true ∙ ap (λ (x : DirRow). take n rows ++ x ∷ []) (sym c.index-rows-number.is))
          ∙ map-append (source_name c.args.short) (take n rows) (r ∷ [])),
      subst OwnFolders (sym c.in_ok-push.ensures.items) (folders-push c.loop-number.dirs.items dir c.loop-number.invariant.2 folder),
    )
