use Rattle.std.proofs.Common.{◌<◌, ◌^◌, List, ℕ, length, subst}
use Rattle.std.specs.List.{AllByRecursion}
use Rattle.mi_script.specs.Kept.{IsText}
use Rattle.mi_carry.proofs.known.head_is_known.Goals as goal

pub returns : goal.returns
returns c = λ whole. record {
  shown = subst IsText c.as_str.ensures.text c.str_is_known.ensures;
  path = c.as_str.ensures.path;
  version = c.version_or_none_is_known.ensures;
  languages = subst (AllByRecursion (λ l. l < 2 ^ 16)) c.as_slice.ensures c.languages_are_known.ensures.each;
  few = subst (λ (ls : List ℕ). length ls < 2 ^ 64) c.as_slice.ensures c.languages_are_known.ensures.few;
  created = c.number_is_known.ensures;
  modified = c.number_is_known-2.ensures;
  attributes = c.attributes_are_known.ensures;
  len = c.number_is_known-3.ensures;
  whole = whole;
}
