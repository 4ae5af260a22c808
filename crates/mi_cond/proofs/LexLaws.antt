-- A text has the tokens that are read from left to right, and no others.
use Rattle.std.proofs.Common.{◌≡◌, ℕ, ◌+◌, ◌*◌, ◌-◌, true, List, [], ◌∷◌, ◌++◌, Option, Some, None, refl, sym, ap, subst, ◌∙◌, append_assoc, inl, inr, ◌⊎◌}
use Rattle.std.proofs.lemmas.Bool.{cases_Bool}
use Rattle.std.proofs.lemmas.List.{append-nil}
use Rattle.mi_cond.proofs.Basics.{none_some, and_true, push-is_empty}
use Rattle.mi_cond.specs.declared.operand.Relation.{Relation}
use Rattle.mi_cond.specs.declared.token.Token.{Token}
use Rattle.mi_cond.specs.declared.token.Token.TheVariants.{Operand, Compare as Compares}
use Rattle.mi_cond.specs.declared.operand.Value.TheVariants as value
use Rattle.mi_cond.specs.Integer.{is_digit, signed}
use Rattle.mi_cond.specs.Lex.{is_blank, are_blanks, is_name_byte, IsTokenText, IsLongest, Tokens}
use Rattle.mi_cond.specs.Moves.{Mode, Nothing, InWord, InSymbol, InLiteral, AfterMinus, InDigits, AfterTilde, InComparison, Move, Grows, Takes, Leaves, Wrong, named, relation_with, finished, left, compares, begin, move, word}
use Rattle.mi_cond.proofs.Lexer.{then_token, first, after_move, one_token, ended, tokens_in}
use Rattle.mi_cond.proofs.Lexis.{if_last, exact_by, exact, exact_text, Spelt, MoveSpelt, BeginSpelt, begin_spelt, left_spelt, IsToken, move_spelt, begin-blank}

-- ---- from left to right: these are tokens of the text

-- the rest of a token, and the tokens behind it
record TokenFrom (w : List ℕ) (ts : List Token) (bs : List ℕ) : Type 0 where
  token : Token
  others : List Token
  more : List ℕ
  rest : List ℕ
  all : ts ≡ token ∷ others
  text : bs ≡ more ++ rest
  spelt : IsTokenText token (w ++ more)
  longest : IsLongest (w ++ more) rest
  behind : Tokens others rest

abbrev LexFrom : Mode → List ℕ → List Token → List ℕ → Type 0
LexFrom Nothing w ts bs = Tokens ts bs
LexFrom (InWord v) w ts bs = TokenFrom w ts bs
LexFrom (InSymbol k v) w ts bs = TokenFrom w ts bs
LexFrom (InLiteral text) w ts bs = TokenFrom w ts bs
LexFrom AfterMinus w ts bs = TokenFrom w ts bs
LexFrom (InDigits negative n) w ts bs = TokenFrom w ts bs
LexFrom AfterTilde w ts bs = TokenFrom w ts bs
LexFrom (InComparison c) w ts bs = TokenFrom w ts bs

from_mode : (m : Mode) (w : List ℕ) (ts : List Token) (bs : List ℕ) → IsToken m → LexFrom m w ts bs → TokenFrom w ts bs
from_mode Nothing w ts bs is l = absurd is
from_mode (InWord v) w ts bs is l = l
from_mode (InSymbol k v) w ts bs is l = l
from_mode (InLiteral text) w ts bs is l = l
from_mode AfterMinus w ts bs is l = l
from_mode (InDigits negative n) w ts bs is l = l
from_mode AfterTilde w ts bs is l = l
from_mode (InComparison c) w ts bs is l = l

to_mode : (m : Mode) (w : List ℕ) (ts : List Token) (bs : List ℕ) → IsToken m → TokenFrom w ts bs → LexFrom m w ts bs
to_mode Nothing w ts bs is l = absurd is
to_mode (InWord v) w ts bs is l = l
to_mode (InSymbol k v) w ts bs is l = l
to_mode (InLiteral text) w ts bs is l = l
to_mode AfterMinus w ts bs is l = l
to_mode (InDigits negative n) w ts bs is l = l
to_mode AfterTilde w ts bs is l = l
to_mode (InComparison c) w ts bs is l = l

push_some : (w : List ℕ) (b : ℕ) → w ++ b ∷ [] ≡ [] → ⊥
push_some [] b e = absurd cc
push_some (x ∷ w) b e = absurd cc

-- what has read a byte is a token's
token_mode : (m : Mode) (w : List ℕ) (b : ℕ) → Spelt m (w ++ b ∷ []) → IsToken m
token_mode Nothing w b s = push_some w b s
token_mode (InWord v) w b s = tt
token_mode (InSymbol k v) w b s = tt
token_mode (InLiteral text) w b s = tt
token_mode AfterMinus w b s = tt
token_mode (InDigits negative n) w b s = tt
token_mode AfterTilde w b s = tt
token_mode (InComparison c) w b s = tt

exact_grows : (k : Mode → Option Token) (bs : List ℕ) (m : Mode) → IsToken m → exact_by k bs (Grows m) ≡ k m
exact_grows k bs Nothing is = absurd is
exact_grows k bs (InWord v) is = refl
exact_grows k bs (InSymbol s v) is = refl
exact_grows k bs (InLiteral text) is = refl
exact_grows k bs AfterMinus is = refl
exact_grows k bs (InDigits negative n) is = refl
exact_grows k bs AfterTilde is = refl
exact_grows k bs (InComparison c) is = refl

-- the bytes w lead to the mode m
Reached : Mode → List ℕ → Type 0
Reached m w = (xs : List ℕ) → exact Nothing (w ++ xs) ≡ exact m xs

reached_none : Reached Nothing []
unfolding Reached
reached_none xs = refl

reached_more : (m n : Mode) (w : List ℕ) (b : ℕ) → Reached m w → move m b ≡ Grows n → IsToken n → Reached n (w ++ b ∷ [])
unfolding Reached
reached_more m n w b r e is xs =
    ap (exact Nothing) (append_assoc w (b ∷ []) xs) ∙ r (b ∷ xs) ∙ ap (exact_by (λ k. exact k xs) xs) e ∙ exact_grows (λ k. exact k xs) xs n is

longest_leaves : (m : Mode) (w : List ℕ) (b : ℕ) (bs : List ℕ) (x : Token) → Reached m w → move m b ≡ Leaves x → IsLongest w (b ∷ bs)
unfolding Reached
longest_leaves m w b bs x r e y [] behind split t = refl
longest_leaves m w b bs x r e y (c ∷ cs) behind split t =
    let same : b ≡ c = cc in
    let here : exact Nothing (w ++ c ∷ cs) ≡ None = r (c ∷ cs) ∙ ap (λ (d : ℕ). exact m (d ∷ cs)) (sym same) ∙ ap (exact_by (λ k. exact k cs) cs) e in
    let there = exact_text y (w ++ c ∷ cs) t in
    none_some y (sym here ∙ there)

longest_takes : (m : Mode) (w : List ℕ) (b : ℕ) (bs : List ℕ) (x : Token) → Reached m w → move m b ≡ Takes x → IsLongest (w ++ b ∷ []) bs
unfolding Reached
longest_takes m w b bs x r e y [] behind split t = refl
longest_takes m w b bs x r e y (c ∷ cs) behind split t =
    let here : exact Nothing ((w ++ b ∷ []) ++ c ∷ cs) ≡ None =
    ap (exact Nothing) (append_assoc w (b ∷ []) (c ∷ cs)) ∙ r (b ∷ c ∷ cs) ∙ ap (exact_by (λ k. exact k (c ∷ cs)) (c ∷ cs)) e in
    let there = exact_text y ((w ++ b ∷ []) ++ c ∷ cs) t in
    none_some y (sym here ∙ there)

longest_end : (w : List ℕ) → IsLongest w []
longest_end w y [] behind split t = refl
longest_end w y (c ∷ cs) behind split t = absurd cc

blank_more : (b : ℕ) (ts : List Token) (bs : List ℕ) → is_blank b ≡ true → Tokens ts bs → Tokens ts (b ∷ bs)
blank_more b [] bs is t = rw is t
blank_more b (x ∷ xs) bs is t = (b ∷ t.0, t.1, t.2, rw is t.3, t.4, t.5, t.6, ap (λ (u : List ℕ). b ∷ u) t.7)

-- a token at the front
token_first : (b : ℕ) (ts : List Token) (bs : List ℕ) → TokenFrom (b ∷ []) ts bs → Tokens ts (b ∷ bs)
token_first b ts bs f =
    let one : Tokens (f.token ∷ f.others) (b ∷ bs) = ([], b ∷ f.more, f.rest, refl, f.spelt, f.longest, f.behind, ap (λ (u : List ℕ). b ∷ u) f.text) in
    subst (λ (us : List Token). Tokens us (b ∷ bs)) (sym f.all) one

token_some : (x : Token) (o : Option (List Token)) (ts : List Token) → then_token x o ≡ Some ts → (xs : List Token) × (o ≡ Some xs) × (ts ≡ x ∷ xs)
token_some x None ts e = none_some ts e
token_some x (Some xs) ts e = (xs, refl, cc)

-- what is read from the rest is right
Rest : List ℕ → Type 0
Rest bs = (m : Mode) (w : List ℕ) (ts : List Token) → Spelt m w → Reached m w → tokens_in m bs ≡ Some ts → LexFrom m w ts bs

by_mode : (b : ℕ) (bs : List ℕ) (n : Mode) (ts : List Token) → Rest bs → begin b ≡ Grows n → Spelt n (b ∷ []) → tokens_in n bs ≡ Some ts → Tokens ts (b ∷ bs)
unfolding Rest
by_mode b bs n ts rest is s e =
    let token = token_mode n [] b s in
    token_first b ts bs (from_mode n (b ∷ []) ts bs token (rest n (b ∷ []) ts s (reached_more Nothing n [] b reached_none is token) e))

begin_tokens : (b : ℕ) (bs : List ℕ) (v : Move) (ts : List Token) → Rest bs → begin b ≡ v → BeginSpelt b v → first (λ n. tokens_in n bs) v ≡ Some ts → Tokens ts (b ∷ bs)
unfolding Rest
begin_tokens b bs (Grows Nothing) ts rest is s e = blank_more b ts bs s (rest Nothing [] ts refl reached_none e)
begin_tokens b bs (Grows (InWord v)) ts rest is s e = by_mode b bs (InWord v) ts rest is s e
begin_tokens b bs (Grows (InSymbol k v)) ts rest is s e = by_mode b bs (InSymbol k v) ts rest is s e
begin_tokens b bs (Grows (InLiteral text)) ts rest is s e = by_mode b bs (InLiteral text) ts rest is s e
begin_tokens b bs (Grows AfterMinus) ts rest is s e = by_mode b bs AfterMinus ts rest is s e
begin_tokens b bs (Grows (InDigits negative n)) ts rest is s e = by_mode b bs (InDigits negative n) ts rest is s e
begin_tokens b bs (Grows AfterTilde) ts rest is s e = by_mode b bs AfterTilde ts rest is s e
begin_tokens b bs (Grows (InComparison c)) ts rest is s e = by_mode b bs (InComparison c) ts rest is s e
begin_tokens b bs (Takes x) ts rest is s e =
    let g = token_some x (tokens_in Nothing bs) ts e in
    let others = rest Nothing [] g.0 refl reached_none g.1 in
    let one : Tokens (x ∷ g.0) (b ∷ bs) = ([], b ∷ [], bs, refl, s, longest_takes Nothing [] b bs x reached_none is, others, refl) in
    subst (λ (us : List Token). Tokens us (b ∷ bs)) (sym g.2) one
begin_tokens b bs (Leaves x) ts rest is s e = absurd s
begin_tokens b bs Wrong ts rest is s e = none_some ts e

-- at the front a token doesn't end before the byte
first_begin : (b : ℕ) (k : Mode → Option (List Token)) (v : Move) → BeginSpelt b v → after_move k b v ≡ first k v
first_begin b k (Grows m) s = refl
first_begin b k (Takes x) s = refl
first_begin b k (Leaves x) s = absurd s
first_begin b k Wrong s = refl

grown : (m n : Mode) (w : List ℕ) (b : ℕ) (bs : List ℕ) (ts : List Token) → Rest bs → Reached m w → move m b ≡ Grows n → Spelt n (w ++ b ∷ []) → tokens_in n bs ≡ Some ts → TokenFrom w ts (b ∷ bs)
unfolding Rest
grown m n w b bs ts rest r is s e =
    let token = token_mode n w b s in
    let f = from_mode n (w ++ b ∷ []) ts bs token (rest n (w ++ b ∷ []) ts s (reached_more m n w b r is token) e) in
    let seam : (w ++ b ∷ []) ++ f.more ≡ w ++ b ∷ f.more = append_assoc w (b ∷ []) f.more in
    record {
      token = f.token;
      others = f.others;
      more = b ∷ f.more;
      rest = f.rest;
      all = f.all;
      text = ap (λ (u : List ℕ). b ∷ u) f.text;
      spelt = subst (IsTokenText f.token) seam f.spelt;
      longest = subst (λ (u : List ℕ). IsLongest u f.rest) seam f.longest;
      behind = f.behind;
    }

token_moves : (m : Mode) (w : List ℕ) (b : ℕ) (bs : List ℕ) (v : Move) (ts : List Token) → Rest bs → Reached m w → move m b ≡ v → MoveSpelt w b v → after_move (λ n. tokens_in n bs) b v ≡ Some ts → TokenFrom w ts (b ∷ bs)
unfolding Rest
token_moves m w b bs (Grows n) ts rest r is s e = grown m n w b bs ts rest r is s e
token_moves m w b bs (Takes x) ts rest r is s e =
    let g = token_some x (tokens_in Nothing bs) ts e in
    record { token = x; others = g.0; more = b ∷ []; rest = bs; all = g.2; text = refl; spelt = s; longest = longest_takes m w b bs x r is; behind = rest Nothing [] g.0 refl reached_none g.1 }
token_moves m w b bs (Leaves x) ts rest r is s e =
    let g = token_some x (first (λ n. tokens_in n bs) (begin b)) ts e in
    let same : w ++ [] ≡ w = append-nil w in
    record {
      token = x;
      others = g.0;
      more = [];
      rest = b ∷ bs;
      all = g.2;
      text = refl;
      spelt = subst (IsTokenText x) (sym same) s;
      longest = subst (λ (u : List ℕ). IsLongest u (b ∷ bs)) (sym same) (longest_leaves m w b bs x r is);
      behind = begin_tokens b bs (begin b) g.0 rest refl (begin_spelt b) g.1;
    }
token_moves m w b bs Wrong ts rest r is s e = none_some ts e

one_some : (o : Option Token) (w : List ℕ) (ts : List Token) → ((x : Token) → o ≡ Some x → IsTokenText x w) → one_token o ≡ Some ts → TokenFrom w ts []
one_some None w ts t e = none_some ts e
one_some (Some x) w ts t e =
    let same : w ++ [] ≡ w = append-nil w in
    record { token = x; others = []; more = []; rest = []; all = cc; text = refl; spelt = subst (IsTokenText x) (sym same) (t x refl); longest = longest_end (w ++ []); behind = refl }

-- the token that ends a text
finished_text : (m : Mode) (w : List ℕ) (x : Token) → Spelt m w → finished m ≡ Some x → IsTokenText x w
finished_text m w x s e = subst (λ (o : Option Token). MoveSpelt w 0 (left o)) e (left_spelt m w 0 s)

end_lexes : (m : Mode) (w : List ℕ) (ts : List Token) → Spelt m w → ended m ≡ Some ts → LexFrom m w ts []
end_lexes Nothing w ts s e = let same : [] ≡ ts = cc in subst (λ (us : List Token). Tokens us []) same refl
end_lexes (InWord v) w ts s e = one_some (finished (InWord v)) w ts (λ x f. finished_text (InWord v) w x s f) e
end_lexes (InSymbol k v) w ts s e = one_some (finished (InSymbol k v)) w ts (λ x f. finished_text (InSymbol k v) w x s f) e
end_lexes (InLiteral text) w ts s e = none_some ts e
end_lexes AfterMinus w ts s e = none_some ts e
end_lexes (InDigits negative n) w ts s e = one_some (finished (InDigits negative n)) w ts (λ x f. finished_text (InDigits negative n) w x s f) e
end_lexes AfterTilde w ts s e = none_some ts e
end_lexes (InComparison c) w ts s e = one_some (finished (InComparison c)) w ts (λ x f. finished_text (InComparison c) w x s f) e

token_lexes : (m : Mode) (w : List ℕ) (b : ℕ) (bs : List ℕ) (ts : List Token) → IsToken m → Rest bs → Spelt m w → Reached m w → tokens_in m (b ∷ bs) ≡ Some ts → LexFrom m w ts (b ∷ bs)
token_lexes m w b bs ts is rest s r e = to_mode m w ts (b ∷ bs) is (token_moves m w b bs (move m b) ts rest r refl (move_spelt m w b is s) e)

lexes : (bs : List ℕ) (m : Mode) (w : List ℕ) (ts : List Token) → Spelt m w → Reached m w → tokens_in m bs ≡ Some ts → LexFrom m w ts bs
unfolding Rest
lexes [] m w ts s r e = end_lexes m w ts s e
lexes (b ∷ bs) Nothing w ts s r e = begin_tokens b bs (begin b) ts (λ n u us t v f. lexes bs n u us t v f) refl (begin_spelt b) (sym (first_begin b (λ n. tokens_in n bs) (begin b) (begin_spelt b)) ∙ e)
lexes (b ∷ bs) (InWord v) w ts s r e = token_lexes (InWord v) w b bs ts tt (λ n u us t v f. lexes bs n u us t v f) s r e
lexes (b ∷ bs) (InSymbol k v) w ts s r e = token_lexes (InSymbol k v) w b bs ts tt (λ n u us t v f. lexes bs n u us t v f) s r e
lexes (b ∷ bs) (InLiteral text) w ts s r e = token_lexes (InLiteral text) w b bs ts tt (λ n u us t v f. lexes bs n u us t v f) s r e
lexes (b ∷ bs) AfterMinus w ts s r e = token_lexes AfterMinus w b bs ts tt (λ n u us t v f. lexes bs n u us t v f) s r e
lexes (b ∷ bs) (InDigits negative n) w ts s r e = token_lexes (InDigits negative n) w b bs ts tt (λ n u us t v f. lexes bs n u us t v f) s r e
lexes (b ∷ bs) AfterTilde w ts s r e = token_lexes AfterTilde w b bs ts tt (λ n u us t v f. lexes bs n u us t v f) s r e
lexes (b ∷ bs) (InComparison c) w ts s r e = token_lexes (InComparison c) w b bs ts tt (λ n u us t v f. lexes bs n u us t v f) s r e

-- what is read from left to right are tokens of the text
pub tokens_are : (text : List ℕ) (ts : List Token) → tokens_in Nothing text ≡ Some ts → Tokens ts text
tokens_are text ts e = lexes text Nothing [] ts refl reached_none e

-- ---- and back

-- a token that may end before the byte, or goes on to a longer token
record GoesOn (m : Mode) (b : ℕ) : Type 0 where
  mode : Mode
  token : Token
  moves : move m b ≡ Grows mode
  ends : finished mode ≡ Some token

word_moves : (v : List ℕ) (b : ℕ) (x : Token) → finished (InWord v) ≡ Some x → (move (InWord v) b ≡ Leaves x) ⊎ GoesOn (InWord v) b
word_moves v b x e =
    elim (cases_Bool (is_name_byte b)) [
      | inl is ↦ inr (record { mode = InWord (v ++ b ∷ []); token = word (v ++ b ∷ []); moves = rw is refl; ends = refl })
      | inr is ↦ let same : move (InWord v) b ≡ left (finished (InWord v)) = rw is refl in inl (same ∙ ap left e)
    ]

finished_moves : (m : Mode) (b : ℕ) (x : Token) → finished m ≡ Some x → (move m b ≡ Leaves x) ⊎ GoesOn m b
finished_moves Nothing b x e = none_some x e
finished_moves (InWord v) b x e = word_moves v b x e
finished_moves (InSymbol k v) b x e =
    elim (cases_Bool (is_name_byte b)) [
      | inl is ↦ let some = push-is_empty v b in inr (record { mode = InSymbol k (v ++ b ∷ []); token = Operand (named k (v ++ b ∷ [])); moves = rw is refl; ends = rw some refl })
      | inr is ↦ let same : move (InSymbol k v) b ≡ left (finished (InSymbol k v)) = rw is refl in inl (same ∙ ap left e)
    ]
finished_moves (InLiteral text) b x e = none_some x e
finished_moves AfterMinus b x e = none_some x e
finished_moves (InDigits negative n) b x e =
    elim (cases_Bool (is_digit b)) [
      | inl is ↦ inr (record { mode = InDigits negative (10 * n + (b - 48)); token = Operand (value.Integer (signed negative (10 * n + (b - 48)))); moves = rw is refl; ends = refl })
      | inr is ↦ let same : move (InDigits negative n) b ≡ left (finished (InDigits negative n)) = rw is refl in inl (same ∙ ap left e)
    ]
finished_moves AfterTilde b x e = none_some x e
finished_moves (InComparison c) b x e = by (relation_with c.relation b) refl
  where
    by : (o : Option Relation) → relation_with c.relation b ≡ o → (move (InComparison c) b ≡ Leaves x) ⊎ GoesOn (InComparison c) b
    by None is = inl (ap (compares c.folds (left (finished (InComparison c)))) is ∙ ap left e)
    by (Some r) is = inr (record { mode = InComparison (record { relation = r; folds = c.folds }); token = Compares (record { relation = r; folds = c.folds }); moves = ap (compares c.folds (left (finished (InComparison c)))) is; ends = refl })

ended_finished : (m : Mode) (x : Token) → finished m ≡ Some x → ended m ≡ Some (x ∷ [])
ended_finished Nothing x e = none_some x e
ended_finished (InWord v) x e = ap one_token e
ended_finished (InSymbol k v) x e = ap one_token e
ended_finished (InLiteral text) x e = none_some x e
ended_finished AfterMinus x e = none_some x e
ended_finished (InDigits negative n) x e = ap one_token e
ended_finished AfterTilde x e = none_some x e
ended_finished (InComparison c) x e = ap one_token e

-- a token that has been read whole, where no longer one stands there
whole_token : (m : Mode) (u : List ℕ) (x : Token) (rest : List ℕ) → Spelt m u → IsToken m → finished m ≡ Some x → IsLongest u rest → tokens_in m rest ≡ then_token x (tokens_in Nothing rest)
whole_token m u x [] s is e longest = ended_finished m x e
whole_token m u x (b ∷ bs) s is e longest =
    elim (finished_moves m b x e) [
      | inl leaves ↦ ap (after_move (λ n. tokens_in n bs) b) leaves ∙ ap (then_token x) (sym (first_begin b (λ n. tokens_in n bs) (begin b) (begin_spelt b)))
      | inr g ↦
          let grows : Spelt g.mode (u ++ b ∷ []) = subst (MoveSpelt u b) g.moves (move_spelt m u b is s) in
          let t : IsTokenText g.token (u ++ b ∷ []) = finished_text g.mode (u ++ b ∷ []) g.token grows g.ends in
          let none : b ∷ [] ≡ [] = longest g.token (b ∷ []) bs refl t in
          absurd cc
    ]

grows_spelt : (b : ℕ) (n : Mode) → IsToken n → BeginSpelt b (Grows n) → Spelt n (b ∷ [])
grows_spelt b Nothing is s = absurd is
grows_spelt b (InWord v) is s = s
grows_spelt b (InSymbol k v) is s = s
grows_spelt b (InLiteral text) is s = s
grows_spelt b AfterMinus is s = s
grows_spelt b (InDigits negative n) is s = s
grows_spelt b AfterTilde is s = s
grows_spelt b (InComparison c) is s = s

-- a mode that goes on with a text is a token's
exact_token : (k : Mode → Option Token) (bs : List ℕ) (n : Mode) (x : Token) → exact_by k bs (Grows n) ≡ Some x → IsToken n
exact_token k bs Nothing x e = none_some x e
exact_token k bs (InWord v) x e = tt
exact_token k bs (InSymbol s v) x e = tt
exact_token k bs (InLiteral text) x e = tt
exact_token k bs AfterMinus x e = tt
exact_token k bs (InDigits negative n) x e = tt
exact_token k bs AfterTilde x e = tt
exact_token k bs (InComparison c) x e = tt

last_taken : (x y : Token) (w rest : List ℕ) → if_last y w ≡ Some x → then_token y (tokens_in Nothing (w ++ rest)) ≡ then_token x (tokens_in Nothing rest)
last_taken x y [] rest e = let same : y ≡ x = cc in ap (λ (z : Token). then_token z (tokens_in Nothing rest)) same
last_taken x y (b ∷ w) rest e = none_some x e

-- what the bytes w behind a token's front read
Front : List ℕ → Token → List ℕ → Type 0
Front w x rest = (m : Mode) (u : List ℕ) → Spelt m u → IsToken m → exact m w ≡ Some x → IsLongest (u ++ w) rest → tokens_in m (w ++ rest) ≡ then_token x (tokens_in Nothing rest)

exact_moves : (w : List ℕ) (b : ℕ) (v : Move) (u : List ℕ) (x : Token) (rest : List ℕ) → Front w x rest → MoveSpelt u b v → exact_by (λ n. exact n w) w v ≡ Some x → IsLongest (u ++ b ∷ w) rest
    → after_move (λ n. tokens_in n (w ++ rest)) b v ≡ then_token x (tokens_in Nothing rest)
unfolding Front
exact_moves w b (Grows n) u x rest h s e longest =
    let token = exact_token (λ k. exact k w) w n x e in
    h n (u ++ b ∷ []) s token (sym (exact_grows (λ k. exact k w) w n token) ∙ e) (subst (λ (v : List ℕ). IsLongest v rest) (sym (append_assoc u (b ∷ []) w)) longest)
exact_moves w b (Takes y) u x rest h s e longest = last_taken x y w rest e
exact_moves w b (Leaves y) u x rest h s e longest = none_some x e
exact_moves w b Wrong u x rest h s e longest = none_some x e

exact_lexes : (w : List ℕ) (x : Token) (rest : List ℕ) → Front w x rest
unfolding Front
exact_lexes [] x rest m u s is e longest = whole_token m u x rest s is e (subst (λ (v : List ℕ). IsLongest v rest) (append-nil u) longest)
exact_lexes (b ∷ w) x rest m u s is e longest = exact_moves w b (move m b) u x rest (exact_lexes w x rest) (move_spelt m u b is s) e longest

-- a token at the front
token_read : (w : List ℕ) (x : Token) (rest : List ℕ) → exact Nothing w ≡ Some x → IsLongest w rest → tokens_in Nothing (w ++ rest) ≡ then_token x (tokens_in Nothing rest)
unfolding Front
token_read [] x rest e longest = none_some x e
token_read (b ∷ w) x rest e longest = by (begin b) (begin_spelt b) e
  where
    by : (v : Move) → BeginSpelt b v → exact_by (λ n. exact n w) w v ≡ Some x → after_move (λ n. tokens_in n (w ++ rest)) b v ≡ then_token x (tokens_in Nothing rest)
    by (Grows n) s f =
        let token = exact_token (λ k. exact k w) w n x f in
        exact_lexes w x rest n (b ∷ []) (grows_spelt b n token s) token (sym (exact_grows (λ k. exact k w) w n token) ∙ f) longest
    by (Takes y) s f = last_taken x y w rest f
    by (Leaves y) s f = absurd s
    by Wrong s f = none_some x f

blanks_read : (gap rest : List ℕ) → are_blanks gap ≡ true → tokens_in Nothing (gap ++ rest) ≡ tokens_in Nothing rest
blanks_read [] rest e = refl
blanks_read (b ∷ gap) rest e =
    let both = and_true (is_blank b) (are_blanks gap) e in
    ap (after_move (λ n. tokens_in n (gap ++ rest)) b) (begin-blank b both.0) ∙ blanks_read gap rest both.1

-- the tokens of a text are read from left to right
pub are_tokens : (ts : List Token) (text : List ℕ) → Tokens ts text → tokens_in Nothing text ≡ Some ts
are_tokens [] text t = ap (tokens_in Nothing) (sym (append-nil text)) ∙ blanks_read text [] t
are_tokens (x ∷ xs) text t =
    ap (tokens_in Nothing) t.7 ∙ blanks_read t.0 (t.1 ++ t.2) t.3 ∙ token_read t.1 x t.2 (exact_text x t.1 t.4) t.5 ∙ ap (then_token x) (are_tokens xs t.2 t.6)
