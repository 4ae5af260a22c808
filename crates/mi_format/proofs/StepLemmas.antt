-- The steps of the scan over what is kept.
use Rattle.std.proofs.Common.{◌≡◌, ℕ, Bool, true, cond, List, [], ◌∷◌, ◌++◌, map, refl, sym, ap, subst, ◌∙◌, inl, inr}
use Rattle.std.specs.Prelude.{Result, IfOk, encode_utf8}
use Rattle.std.proofs.lemmas.Bool.{cases_Bool}
use Rattle.mi_text.specs.Lookups.{Lookups}
use Rattle.mi_format.specs.declared.token.Kind.{Kind}
use Rattle.mi_format.specs.declared.token.Token.{Token}
use Rattle.mi_format.specs.declared.token.Token.TheVariants.{Char, Escape, Open, Close}
use Rattle.mi_format.specs.declared.part.Kept.{Kept}
use Rattle.mi_format.specs.declared.scan.OpenMark.{OpenMark}
use Rattle.mi_format.specs.Tokens.{open_of, close_of, closes, shown}
use Rattle.mi_format.specs.Scan.{Frame, State, texted, step_on, step, closed}
use Rattle.mi_format.specs.State.{Part, both, parts, plain, part_beside, part_group}
use Rattle.mi_format.specs.Kept.{joined, kept, kept_part, kept_beside, kept_frame, kept_state}
use Rattle.mi_format.specs.Marks.{frame_of, frames_of}
use Rattle.mi_format.proofs.MarkLemmas.{frames_of-push}
use Rattle.mi_format.proofs.KeptLemmas.{kept-beside, kept-both}
use Rattle.mi_format.proofs.Grammar.{kinds_same, closes_itself}

pub if_ok_along : {T E : Type 0} (r : Result T E) (f : T → State Kept) (a b : State Kept) → a ≡ b → IfOk r (λ s. f s ≡ a) → IfOk r (λ s. f s ≡ b)
if_ok_along r f a b e h = subst (λ (x : State Kept). IfOk r (λ s. f s ≡ x)) e h

abbrev pub at : {A : Type 0} → List (Frame A) → A → State A
at fs x = record { frames = fs; current = x }

module _ (L : Lookups) (most : ℕ) where
  -- ---- tokens that are text

  abbrev pub IsText : State Part → Token → Type 0
  IsText s t = step (parts L) s t ≡ texted (parts L) s.frames s.current t

  char_is_text : (fs : List (Frame Part)) (x : Part) (c : ℕ) → step_on (parts L) fs x (Char c) ≡ texted (parts L) fs x (Char c)
  char_is_text [] x c = refl
  char_is_text (f ∷ fs) x c = refl

  escape_is_text : (fs : List (Frame Part)) (x : Part) (c : ℕ) → step_on (parts L) fs x (Escape c) ≡ texted (parts L) fs x (Escape c)
  escape_is_text [] x c = refl
  escape_is_text (f ∷ fs) x c = refl

  text_kept : (marks : List (Frame Kept)) (current : Kept) (full : State Part) (t : Token) (c : ℕ) → shown t ≡ encode_utf8 c → IsText full t → at marks current ≡ kept_state most full
      → at marks (kept_beside most current (plain (encode_utf8 c))) ≡ kept_state most (step (parts L) full t)
  text_kept marks current full t c same text e =
      let before : current ≡ kept_part most full.current = ap (λ (s : State Kept). s.current) e in
      let marked : marks ≡ map (kept_frame most) full.frames = ap (λ (s : State Kept). s.frames) e in
      let now : kept_beside most current (plain (encode_utf8 c)) ≡ kept_part most (part_beside full.current (plain (shown t))) =
      ap (λ (k : Kept). kept_beside most k (plain (encode_utf8 c))) before ∙ kept-beside most full.current (plain (encode_utf8 c))
      ∙ ap (λ (x : List ℕ). kept_part most (part_beside full.current (plain x))) (sym same) in
      ap (λ (fs : List (Frame Kept)). at fs (kept_beside most current (plain (encode_utf8 c)))) marked
      ∙ ap (at (map (kept_frame most) full.frames)) now ∙ ap (kept_state most) (sym text)

  pub char_kept : (marks : List (Frame Kept)) (current : Kept) (full : State Part) (c : ℕ) → at marks current ≡ kept_state most full
      → at marks (kept_beside most current (plain (encode_utf8 c))) ≡ kept_state most (step (parts L) full (Char c))
  char_kept marks current full c e = text_kept marks current full (Char c) c refl (char_is_text full.frames full.current c) e

  pub escape_kept : (marks : List (Frame Kept)) (current : Kept) (full : State Part) (c : ℕ) → at marks current ≡ kept_state most full
      → at marks (kept_beside most current (plain (encode_utf8 c))) ≡ kept_state most (step (parts L) full (Escape c))
  escape_kept marks current full c e = text_kept marks current full (Escape c) c refl (escape_is_text full.frames full.current c) e

  -- ---- a close that closes nothing

  other_close : (k : Kind) (f : Frame Part) (fs : List (Frame Part)) (x : Part) → (f.kind ≡ k → ⊥) → step_on (parts L) (f ∷ fs) x (Close k) ≡ texted (parts L) (f ∷ fs) x (Close k)
  other_close k f fs x other =
      elim (cases_Bool (closes f.kind (Close k))) [
        | inl same ↦ absurd (other (sym (kinds_same k f.kind same)))
        | inr differs ↦ ap (λ (b : Bool). cond b (at fs (part_beside f.before (part_group L f.kind x))) (texted (parts L) (f ∷ fs) x (Close k))) differs
      ]

  mismatch : (k : Kind) (m : OpenMark) (marks : List (Frame Kept)) (fs : List (Frame Part)) (x : Part) → (m.kind ≡ k → ⊥) → frame_of m ∷ marks ≡ map (kept_frame most) fs → IsText (at fs x) (Close k)
  mismatch k m marks [] x other e = absurd cc
  mismatch k m marks (f ∷ fs) x other e =
      let first : frame_of m ≡ kept_frame most f = cc in
      other_close k f fs x (λ same. other (ap (λ (g : Frame Kept). g.kind) first ∙ same))

  pub mismatch_kept : (k : Kind) (c : ℕ) (old ms : List OpenMark) (m : OpenMark) (current : Kept) (full : State Part) → old ≡ ms ++ m ∷ [] → c ≡ close_of k → (m.kind ≡ k → ⊥)
      → at (frames_of old) current ≡ kept_state most full
      → at (frames_of (ms ++ m ∷ [])) (kept_beside most current (plain (encode_utf8 c))) ≡ kept_state most (step (parts L) full (Close k))
  mismatch_kept k c old ms m current full is close other e =
      let marked : frame_of m ∷ frames_of ms ≡ map (kept_frame most) full.frames = sym (frames_of-push ms m) ∙ ap frames_of (sym is) ∙ ap (λ (s : State Kept). s.frames) e in
      text_kept (frames_of (ms ++ m ∷ [])) current full (Close k) c (ap encode_utf8 (sym close)) (mismatch k m (frames_of ms) full.frames full.current other marked)
      (ap (λ (os : List OpenMark). at (frames_of os) current) (sym is) ∙ e)

  -- ---- a close that closes a group

  closes_group : (k : Kind) (f : Frame Part) (fs : List (Frame Part)) (x : Part) → f.kind ≡ k → step_on (parts L) (f ∷ fs) x (Close k) ≡ at fs (part_beside f.before (part_group L k x))
  closes_group k f fs x same =
      let closing : closes f.kind (Close k) ≡ true = ap (λ (j : Kind). closes f.kind (Close j)) (sym same) ∙ closes_itself f.kind in
      ap (λ (b : Bool). cond b (at fs (part_beside f.before (part_group L f.kind x))) (texted (parts L) (f ∷ fs) x (Close k))) closing
      ∙ ap (λ (j : Kind). at fs (part_beside f.before (part_group L j x))) same

  abbrev pub Grouped : Kind → Kept → Kept → Kept → Type 0
  Grouped k before current new = (q p : Part) → before ≡ kept_part most q → current ≡ kept_part most p → new ≡ kept_part most (part_beside q (part_group L k p))

  grouped : (k : Kind) (m : OpenMark) (marks : List (Frame Kept)) (current new : Kept) (fs : List (Frame Part)) (x : Part) → m.kind ≡ k → frame_of m ∷ marks ≡ map (kept_frame most) fs → current ≡ kept_part most x
      → Grouped k m.before current new → at marks new ≡ kept_state most (step_on (parts L) fs x (Close k))
  grouped k m marks current new [] x same e is g = absurd cc
  grouped k m marks current new (f ∷ fs) x same e is g =
      let first : frame_of m ≡ kept_frame most f = cc in
      let others : marks ≡ map (kept_frame most) fs = cc in
      let before : m.before ≡ kept_part most f.before = ap (λ (h : Frame Kept). h.before) first in
      let kind : f.kind ≡ k = sym (ap (λ (h : Frame Kept). h.kind) first) ∙ same in
      ap (λ (hs : List (Frame Kept)). at hs new) others ∙ ap (at (map (kept_frame most) fs)) (g f.before x before is) ∙ ap (kept_state most) (sym (closes_group k f fs x kind))

  pub group_kept : (k : Kind) (old ms : List OpenMark) (m : OpenMark) (current new : Kept) (full : State Part) → old ≡ ms ++ m ∷ [] → m.kind ≡ k → at (frames_of old) current ≡ kept_state most full
      → Grouped k m.before current new → at (frames_of ms) new ≡ kept_state most (step (parts L) full (Close k))
  group_kept k old ms m current new full is same e g =
      let marked : frame_of m ∷ frames_of ms ≡ map (kept_frame most) full.frames = sym (frames_of-push ms m) ∙ ap frames_of (sym is) ∙ ap (λ (s : State Kept). s.frames) e in
      grouped k m (frames_of ms) current new full.frames full.current same marked (ap (λ (s : State Kept). s.current) e) g

  -- ---- marks that are open at the end

  abbrev pub Ends : State Part → List (Frame Kept) → Kept → Type 0
  Ends full marks current = (now : State Part) × (at marks current ≡ kept_state most now) × (closed (parts L) now.frames now.current ≡ closed (parts L) full.frames full.current)

  ended : (m : OpenMark) (marks : List (Frame Kept)) (current before new : Kept) (c : ℕ) (fs : List (Frame Part)) (x : Part) → frame_of m ∷ marks ≡ map (kept_frame most) fs → current ≡ kept_part most x
      → c ≡ open_of m.kind → before ≡ kept_beside most m.before (plain (encode_utf8 c))
      → new ≡ record { text = joined most before.text current.text; brackets = both before.brackets current.brackets } → Ends (at fs x) marks new
  ended m marks current before new c [] x e is kind one two = absurd cc
  ended m marks current before new c (f ∷ fs) x e is kind one two =
      let first : frame_of m ≡ kept_frame most f = cc in
      let others : marks ≡ map (kept_frame most) fs = cc in
      let stood : m.before ≡ kept_part most f.before = ap (λ (h : Frame Kept). h.before) first in
      let opened : encode_utf8 c ≡ shown (Open f.kind) = ap encode_utf8 (kind ∙ ap (λ (h : Frame Kept). open_of h.kind) first) in
      let p : Part = part_beside f.before (plain (shown (Open f.kind))) in
      let marked : before ≡ kept_part most p =
      one ∙ ap (λ (k : Kept). kept_beside most k (plain (encode_utf8 c))) stood ∙ kept-beside most f.before (plain (encode_utf8 c)) ∙ ap (λ (t : List ℕ). kept_part most (part_beside f.before (plain t))) opened in
      let both_parts : new ≡ kept_part most (part_beside p x) =
      two
      ∙ ap (λ (k : Kept). let r : Kept = record { text = joined most k.text current.text; brackets = both k.brackets current.brackets } in r) marked
      ∙ ap (λ (k : Kept). let r : Kept = record { text = joined most (kept most p.text) k.text; brackets = both p.brackets k.brackets } in r) is
      ∙ kept-both most p x in
      (at fs (part_beside p x), ap (λ (hs : List (Frame Kept)). at hs new) others ∙ ap (at (map (kept_frame most) fs)) both_parts, refl)

  pub end_more : (old ms : List OpenMark) (m : OpenMark) (current before new : Kept) (c : ℕ) (full : State Part) → old ≡ ms ++ m ∷ [] → c ≡ open_of m.kind
      → before ≡ kept_beside most m.before (plain (encode_utf8 c)) → new ≡ record { text = joined most before.text current.text; brackets = both before.brackets current.brackets }
      → Ends full (frames_of old) current → Ends full (frames_of ms) new
  end_more old ms m current before new c full is kind one two h =
      let marked : frame_of m ∷ frames_of ms ≡ map (kept_frame most) (h.0).frames = sym (frames_of-push ms m) ∙ ap frames_of (sym is) ∙ ap (λ (s : State Kept). s.frames) h.1 in
      let more = ended m (frames_of ms) current before new c (h.0).frames (h.0).current marked (ap (λ (s : State Kept). s.current) h.1) kind one two in
      (more.0, more.1, more.2 ∙ h.2)

  no_frames : (fs : List (Frame Part)) (x : Part) → [] ≡ map (kept_frame most) fs → closed (parts L) fs x ≡ x
  no_frames [] x e = refl
  no_frames (f ∷ fs) x e = absurd cc

  pub end_all : (ms : List OpenMark) (current : Kept) (full : State Part) → ms ≡ [] → Ends full (frames_of ms) current → current.text ≡ kept most (closed (parts L) full.frames full.current).text
  end_all ms current full none h =
      let empty : [] ≡ map (kept_frame most) (h.0).frames = sym (ap frames_of none) ∙ ap (λ (s : State Kept). s.frames) h.1 in
      ap (λ (s : State Kept). s.current.text) h.1 ∙ ap (λ (p : Part). kept most p.text) (sym (no_frames (h.0).frames (h.0).current empty) ∙ h.2)
