use Rattle.std.proofs.Common.{◌≡◌, Some, refl, sym, ap, ◌∙◌}
use Rattle.mi_world.specs.declared.placed.Placed.{Placed}
use Rattle.mi_world.specs.Seen.{with_target}
use Rattle.mi_world.proofs.seen.Seen.set_dir.Goals as goal

pub returns : goal.returns
returns c = λ p at.
    let both : Some c.in-Some.placed ≡ Some p = sym c.in-Some.is ∙ at in
    let same : c.in-Some.placed ≡ p = cc in
    record {
      placed = c.moved.new.placed;
      is = refl;
      dirs = ap (λ (q : Placed). with_target c.args.directory.now c.args.text.now q.dirs) (sym same) ∙ c.in_ok-moved-in-Some.ensures.dirs;
      files = c.in_ok-moved-in-Some.ensures.files;
      props = c.in_ok-set_directories-in-Some.ensures;
      loaded = refl;
      known = refl;
      moment = refl;
      selection = refl;
    }
