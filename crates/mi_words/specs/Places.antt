-- Words by their places. (Windows Installer command-line options.)
use Rattle.std.specs.Prelude.{ℕ, not, List, [], drop, filter, map, get_or}
use Rattle.mi_model.specs.Texts.{Text}
use Rattle.mi_model.specs.Assignments.{Assigned, Placed, placed_from, is_dropped, is_assignment, assigned}

-- words that aren't dropped; the first of all stands at this place
abbrev pub kept_from : ℕ → List Text → List Placed
kept_from place words = filter (λ w. not (is_dropped w.1)) (placed_from place words)

-- those from a place on
abbrev pub kept_behind : ℕ → List Text → List Placed
kept_behind place words = kept_from place (drop place words)

-- those of them that set no property
abbrev pub others_behind : ℕ → List Text → List Placed
others_behind place words = filter (λ w. not (is_assignment w.1)) (kept_behind place words)

-- the word at a place
abbrev pub word_at : ℕ → List Text → Placed
word_at place words = (place, get_or words place [])

-- the properties of words that set some or are dropped
abbrev pub given : List Text → Assigned
given words = map assigned (filter (λ w. not (is_dropped w)) words)
