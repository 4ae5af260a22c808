-- The mode that letters spell (REINSTALLMODE property).
use Rattle.std.specs.Prelude.{ℕ, if◌then◌else◌, List, Option, Some, None}
use Rattle.std.specs.List.{list_all}
use Rattle.mi_fver.specs.LetterTests.{has_letter, is_letter}
use Rattle.mi_fver.specs.declared.mode.Mode.{Mode}

-- the codes of p, o, e, d, a, u, m, s and v
abbrev pub letters_in : List ℕ → Mode
letters_in letters = record {
  p = has_letter letters 112;
  o = has_letter letters 111;
  e = has_letter letters 101;
  d = has_letter letters 100;
  a = has_letter letters 97;
  u = has_letter letters 117;
  m = has_letter letters 109;
  s = has_letter letters 115;
  v = has_letter letters 118;
}

-- which letters stand there, where no other character does
abbrev pub mode_of : List ℕ → Option Mode
mode_of letters = if list_all is_letter letters then Some (letters_in letters) else None
