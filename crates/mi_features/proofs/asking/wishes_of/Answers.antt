use Rattle.std.proofs.Common.{refl}
use Rattle.mi_features.proofs.asking.wishes_of.Goals as goal

pub returns : goal.returns
returns g c = λ held files. record {
  levels = c.in_ok-levels.ensures;
  lists = c.requires.lists;
  recorded = (c.in_ok-record.ensures held files).features;
  is_new = (c.in_ok-record.ensures held files).is_new;
  install_level = refl;
}
