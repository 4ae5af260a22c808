-- The tokens of a text from left to right, and the machine byte by byte where brackets and NOT nest to a limit.
use Rattle.std.specs.Prelude.{ℕ, List, [], ◌∷◌, Option, Some, None, option_map, option_and_then}
use Rattle.mi_cond.specs.declared.token.Token.{Token}
use Rattle.mi_cond.specs.Tree.{Tree}
use Rattle.mi_cond.specs.Steps.{State}
use Rattle.mi_cond.specs.Moves.{Mode, Nothing, InWord, InSymbol, InLiteral, AfterMinus, InDigits, AfterTilde, InComparison, Move, Grows, Takes, Leaves, Wrong, finished, begin, move, Place, within, between}
use Rattle.mi_cond.proofs.Runs.{step_to, run}

abbrev pub then_token : Token → Option (List Token) → Option (List Token)
then_token x o = option_map (λ ts. x ∷ ts) o

abbrev pub first : (Mode → Option (List Token)) → Move → Option (List Token)
first k (Grows m) = k m
first k (Takes x) = then_token x (k Nothing)
first k (Leaves x) = None
first k Wrong = None

abbrev pub after_move : (Mode → Option (List Token)) → ℕ → Move → Option (List Token)
after_move k b (Grows m) = k m
after_move k b (Takes x) = then_token x (k Nothing)
after_move k b (Leaves x) = then_token x (first k (begin b))
after_move k b Wrong = None

abbrev pub one_token : Option Token → Option (List Token)
one_token o = option_map (λ x. x ∷ []) o

abbrev pub ended : Mode → Option (List Token)
ended Nothing = Some []
ended (InWord w) = one_token (finished (InWord w))
ended (InSymbol k w) = one_token (finished (InSymbol k w))
ended (InLiteral text) = None
ended AfterMinus = None
ended (InDigits negative n) = one_token (finished (InDigits negative n))
ended AfterTilde = None
ended (InComparison c) = one_token (finished (InComparison c))

abbrev pub tokens_in : Mode → List ℕ → Option (List Token)
tokens_in m [] = ended m
tokens_in m (b ∷ bs) = after_move (λ n. tokens_in n bs) b (move m b)

-- ---- the machine with a limit

abbrev pub first_to : ℕ → State → Move → Option Place
first_to limit s (Grows m) = within s m
first_to limit s (Takes x) = option_map between (step_to limit s x)
first_to limit s (Leaves x) = None
first_to limit s Wrong = None

abbrev pub after_to : ℕ → State → ℕ → Move → Option Place
after_to limit s b (Grows m) = within s m
after_to limit s b (Takes x) = option_map between (step_to limit s x)
after_to limit s b (Leaves x) = option_and_then (λ n. first_to limit n (begin b)) (step_to limit s x)
after_to limit s b Wrong = None

abbrev pub byte_to : ℕ → Place → ℕ → Option Place
byte_to limit p b = after_to limit p.state b (move p.mode b)

abbrev pub bytes_to : ℕ → Place → List ℕ → Option Place
bytes_to limit p [] = Some p
bytes_to limit p (b ∷ bs) = option_and_then (λ q. bytes_to limit q bs) (byte_to limit p b)

-- what is read from a place, where bytes follow
abbrev pub read_in : ℕ → Mode → State → List ℕ → Option Tree
read_in limit m s bs = option_and_then (run limit s) (tokens_in m bs)

abbrev pub read : ℕ → Place → List ℕ → Option Tree
read limit p bs = read_in limit p.mode p.state bs
