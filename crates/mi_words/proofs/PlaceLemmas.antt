-- Words from one place on, and from the next.
use Rattle.std.proofs.Common.{◌≡◌, ℕ, zero, suc, ◌+◌, ◌<◌, ◌≤◌, not, ◌||◌, Bool, true, false, cond, List, [], ◌∷◌, length, take, drop, get_or, ◌-◌, filter, map, Ok, Err, refl, sym, ap, ◌∙◌, arith}
use Rattle.std.specs.Prelude.{String, string_bytes}
use Rattle.std.specs.declared.alloc.Global.{Global}
use Rattle.std.proofs.lemmas.List.{length-drop, take_all, drop_more, drop_all, length-map, get_or-map}
use Rattle.mi_model.specs.Texts.{Text}
use Rattle.mi_model.specs.Assignments.{Placed, Assigned, texts_of, placed_from, is_dropped, is_assignment, assigned, unless_other, assignments}
use Rattle.mi_model.specs.Words.{command_of, command_of_kept, command_in}
use Rattle.mi_text.specs.Fold.{folded}
use Rattle.mi_words.specs.Places.{kept_from, kept_behind, others_behind, word_at, given}

placed_more : (ws : List Text) (n : ℕ) → n < length ws → placed_from n (drop n ws) ≡ word_at n ws ∷ placed_from (n + 1) (drop (n + 1) ws)
placed_more ws n below = let next : suc n ≡ n + 1 = omega arith in ap (placed_from n) (drop_more ws n [] below) ∙ ap (λ k. word_at n ws ∷ placed_from k (drop (n + 1) ws)) next

-- no word from the end on
pub kept_end : (ws : List Text) (n : ℕ) → length ws ≤ n → kept_behind n ws ≡ []
kept_end ws n end = ap (kept_from n) (drop_all n ws end)

pub kept_more : (ws : List Text) (n : ℕ) → n < length ws → is_dropped (get_or ws n []) ≡ false → kept_behind n ws ≡ word_at n ws ∷ kept_behind (n + 1) ws
kept_more ws n below kept = ap (filter (λ (w : Placed). not (is_dropped w.1))) (placed_more ws n below) ∙ ap (λ b. cond (not b) (word_at n ws ∷ kept_behind (n + 1) ws) (kept_behind (n + 1) ws)) kept

pub kept_dropped : (ws : List Text) (n : ℕ) → n < length ws → is_dropped (get_or ws n []) ≡ true → kept_behind n ws ≡ kept_behind (n + 1) ws
kept_dropped ws n below dropped = ap (filter (λ (w : Placed). not (is_dropped w.1))) (placed_more ws n below) ∙ ap (λ b. cond (not b) (word_at n ws ∷ kept_behind (n + 1) ws) (kept_behind (n + 1) ws)) dropped

-- ---- the program's words

pub word_is : (ws : List (String Global)) (n : ℕ) (s : String Global) → n < length ws → get_or (texts_of ws) n [] ≡ string_bytes (get_or ws n s)
word_is ws n s below = get_or-map string_bytes ws n s [] below

-- ---- the properties of words, with their places or without

pub given_placed : (ws : List Text) (n : ℕ) → map (λ (w : Placed). assigned w.1) (kept_from n ws) ≡ given ws
given_placed [] n = refl
given_placed (w ∷ ws) n = elim (is_dropped w) as (λ b. map (λ (w : Placed). assigned w.1) (cond (not b) ((n, w) ∷ kept_from (suc n) ws) (kept_from (suc n) ws)) ≡ map assigned (cond (not b) (w ∷ filter (λ w. not (is_dropped w)) ws) (filter (λ w. not (is_dropped w)) ws))) [
  | true ↦ given_placed ws (suc n)
  | false ↦ ap (λ (l : Assigned). assigned w ∷ l) (given_placed ws (suc n))
]

-- ---- words that set no property

abbrev is_other : Placed → Bool
is_other w = not (is_assignment w.1)

others_as : (w : Placed) (rest : List Placed) (d a : Bool) → is_dropped w.1 ≡ d → is_assignment w.1 ≡ a → filter is_other (filter (λ (v : Placed). not (is_dropped v.1)) (w ∷ rest)) ≡ cond (not d) (cond (not a) (w ∷ filter is_other (filter (λ (v : Placed). not (is_dropped v.1)) rest)) (filter is_other (filter (λ (v : Placed). not (is_dropped v.1)) rest))) (filter is_other (filter (λ (v : Placed). not (is_dropped v.1)) rest))
others_as w rest true a dropped assigns = ap (λ b. filter is_other (cond (not b) (w ∷ filter (λ (v : Placed). not (is_dropped v.1)) rest) (filter (λ (v : Placed). not (is_dropped v.1)) rest))) dropped
others_as w rest false a dropped assigns =
    ap (λ b. filter is_other (cond (not b) (w ∷ filter (λ (v : Placed). not (is_dropped v.1)) rest) (filter (λ (v : Placed). not (is_dropped v.1)) rest))) dropped
    ∙ ap (λ b. cond (not b) (w ∷ filter is_other (filter (λ (v : Placed). not (is_dropped v.1)) rest)) (filter is_other (filter (λ (v : Placed). not (is_dropped v.1)) rest))) assigns

others_step : (ws : List Text) (n : ℕ) → n < length ws → others_behind n ws ≡ cond (is_dropped (get_or ws n []) || is_assignment (get_or ws n [])) (others_behind (n + 1) ws) (word_at n ws ∷ others_behind (n + 1) ws)
others_step ws n below =
    ap (λ (l : List Placed). filter is_other (filter (λ (v : Placed). not (is_dropped v.1)) l)) (placed_more ws n below)
    ∙ others_as (word_at n ws) (placed_from (n + 1) (drop (n + 1) ws)) (is_dropped (get_or ws n [])) (is_assignment (get_or ws n [])) refl refl
    ∙ either (is_dropped (get_or ws n [])) (is_assignment (get_or ws n []))
  where
    either : (d a : Bool) → cond (not d) (cond (not a) (word_at n ws ∷ others_behind (n + 1) ws) (others_behind (n + 1) ws)) (others_behind (n + 1) ws) ≡ cond (d || a) (others_behind (n + 1) ws) (word_at n ws ∷ others_behind (n + 1) ws)
    either true a = refl
    either false true = refl
    either false false = refl

pub others_pass : (ws : List Text) (n : ℕ) → n < length ws → (is_dropped (get_or ws n []) || is_assignment (get_or ws n [])) ≡ true → others_behind n ws ≡ others_behind (n + 1) ws
others_pass ws n below passes = others_step ws n below ∙ ap (λ b. cond b (others_behind (n + 1) ws) (word_at n ws ∷ others_behind (n + 1) ws)) passes

pub others_here : (ws : List Text) (n : ℕ) → n < length ws → (is_dropped (get_or ws n []) || is_assignment (get_or ws n [])) ≡ false → others_behind n ws ≡ word_at n ws ∷ others_behind (n + 1) ws
others_here ws n below here = others_step ws n below ∙ ap (λ b. cond b (others_behind (n + 1) ws) (word_at n ws ∷ others_behind (n + 1) ws)) here

-- ---- all words

map_drop : (ws : List (String Global)) (n : ℕ) → texts_of (drop n ws) ≡ drop n (texts_of ws)
map_drop ws zero = refl
map_drop [] (suc n) = refl
map_drop (w ∷ ws) (suc n) = map_drop ws n

pub all_assign : (ws lent : List (String Global)) (n : ℕ) → lent ≡ drop n ws → others_behind n (texts_of ws) ≡ [] → assignments (kept_behind n (texts_of ws)) ≡ Ok (given (texts_of lent))
all_assign ws lent n is none =
    ap (λ (others : List Placed). unless_other others (map (λ (w : Placed). assigned w.1) (kept_behind n (texts_of ws)))) none
    ∙ ap Ok (given_placed (drop n (texts_of ws)) n ∙ ap given (sym (map_drop ws n) ∙ ap texts_of (sym is)))

pub read_none : (ws : List (String Global)) → kept_behind 0 (texts_of ws) ≡ [] → command_of (texts_of ws) ≡ Err (length ws)
unfolding command_of
read_none ws none = ap (command_of_kept (length (texts_of ws))) none ∙ ap Err (length-map ws string_bytes)

pub read_some : (ws : List (String Global)) (place : ℕ) (word : Text) (rest : List Placed) → kept_behind 0 (texts_of ws) ≡ (place, word) ∷ rest → command_of (texts_of ws) ≡ command_in (length ws) place (folded word) rest
unfolding command_of
read_some ws place word rest some = ap (command_of_kept (length (texts_of ws))) some ∙ ap (λ n. command_in n place (folded word) rest) (length-map ws string_bytes)

pub whole_rest : (ws : List (String Global)) (n : ℕ) → take (length ws - n) (drop n ws) ≡ drop n ws
whole_rest ws n = let long = length-drop n ws in take_all (length ws - n) (drop n ws) (omega (arith, long))

-- the loops pass a word over
pub kept_pass : (ws : List (String Global)) (n : ℕ) (s : String Global) (word : Text) → n < length ws → s ≡ get_or ws n s → word ≡ string_bytes s → is_dropped word ≡ true → kept_behind n (texts_of ws) ≡ kept_behind (n + 1) (texts_of ws)
kept_pass ws n s word below is is_word dropped =
    let long = length-map ws string_bytes in
    kept_dropped (texts_of ws) n (omega (arith, long)) (ap is_dropped (word_is ws n s below ∙ ap string_bytes (sym is) ∙ sym is_word) ∙ dropped)

pub other_pass : (ws : List (String Global)) (n : ℕ) (s : String Global) (word : Text) → n < length ws → s ≡ get_or ws n s → word ≡ string_bytes s → (is_dropped word || is_assignment word) ≡ true → others_behind n (texts_of ws) ≡ others_behind (n + 1) (texts_of ws)
other_pass ws n s word below is is_word passes =
    let long = length-map ws string_bytes in
    others_pass (texts_of ws) n (omega (arith, long)) (ap (λ (t : Text). is_dropped t || is_assignment t) (word_is ws n s below ∙ ap string_bytes (sym is) ∙ sym is_word) ∙ passes)
