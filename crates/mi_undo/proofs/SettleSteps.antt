-- The calls of settling.
use Rattle.std.proofs.Common.{◌≡◌, ◌⊎◌, inl, inr, ⊎_elim, Option, ℕ, Bool, true, false, cond, not, List, [], length, None, Result, Ok, Err, IsErr, IsErrAnd, IfOk, OnOk, refl, sym, ap, subst, ◌∙◌}
use Rattle.std.proofs.lemmas.List.{length-map}
use Rattle.std.specs.FinMap.{get}
use Rattle.mi_text.specs.declared.answers.Settled.TheVariants.{Clean, Undone}
use Rattle.mi_volume.specs.Maps.{Map, HoldsByte}
use Rattle.mi_volume.specs.State.{State, GoesOn, Images, NothingDirty}
use Rattle.mi_volume.specs.declared.volume.Failed.{Failed}
use Rattle.mi_volume.proofs.Moments.{weaker, joined}
use Rattle.mi_undo.specs.Names.{marker, is_inside, most_entries}
use Rattle.mi_undo.specs.Notes.{Note, note_of, are_new}
use Rattle.mi_undo.specs.Stands.{is_one, read_from, noted, put_over, outside, stands, settled, StandsFor}
use Rattle.mi_undo.specs.Keeps.{IsNoted, Keeps, IsFree}
use Rattle.mi_undo.specs.Area.{note_in, notes_in}
use Rattle.mi_undo.specs.Steps.{Touches, SealsByte}
use Rattle.mi_undo.specs.Clear.{StandsPlainly, IsShut, Clears}
use Rattle.mi_undo.specs.Back.{PutsBack}
use Rattle.mi_undo.specs.Reading.{Looks, IsUnread, first_shut, Spare, Spares}
use Rattle.mi_undo.specs.Short.{IsShort}
use Rattle.mi_undo.specs.Room.{ShortAs}
use Rattle.mi_undo.specs.Settle.{IsRead, Undoes, Settles}
use Rattle.mi_undo.specs.Answers.{IfBad, IfFull}
use Rattle.mi_undo.specs.declared.kept.Place.{Place}
use Rattle.mi_undo.specs.declared.fault.UndoError.{UndoError}
use Rattle.mi_undo.specs.declared.fault.UndoError.TheVariants.{NoMemory, Fault, BadRollback, Full}
use Rattle.mi_undo.proofs.FaultLemmas.{at_err}
use Rattle.mi_undo.proofs.StandsLemmas.{clean_same, get-outside, unnoted_is}
use Rattle.mi_undo.proofs.EntryLemmas.{notes_in_same}
use Rattle.mi_undo.proofs.ClearLemmas.{plainly}
use Rattle.mi_undo.proofs.BackSteps.{keeps_byte, keeps_image, back_halfway}
use Rattle.mi_undo.proofs.CloseLemmas.{halfway_either}
use Rattle.mi_undo.proofs.CommitLemmas.{shut_from}
use Rattle.mi_undo.proofs.SettleLemmas.{notes_new, keeps_read}
use Rattle.mi_undo.proofs.PutLemmas.{unshut, shut_goes}
use Rattle.mi_undo.proofs.SumLemmas.{one_list, not_empty}
use Rattle.mi_undo.proofs.NotesOf.{new_outside}
use Rattle.mi_undo.proofs.TouchLemmas.{AgreesBeside, touches_then, touches_name, touches_more}
use Rattle.mi_undo.proofs.RecoverLemmas.{short_as}

one_map : (a b : Map) → ◌≡◌ {A = Result Map (List ℕ)} (Ok a) (Ok b) → a ≡ b
one_map a b e = cc

-- what a volume stands for, by its marker
pub stands_shut : (h : Map) → is_one (get h marker) ≡ false → stands h ≡ Ok (outside h)
unfolding stands noted put_over
stands_shut h shut = rw shut refl

pub stands_read : (h : Map) (ns : List Note) → is_one (get h marker) ≡ true → read_from h 0 most_entries [] ≡ Ok ns → stands h ≡ Ok (outside (put_over ns h))
unfolding stands noted
stands_read h ns marked read = rw (marked, read) refl

pub stands_bad : (h : Map) (name : List ℕ) → is_one (get h marker) ≡ true → read_from h 0 most_entries [] ≡ Err name → stands h ≡ Err name
unfolding stands noted
stands_bad h name marked read = rw (marked, read) refl

pub noted_read : (h : Map) (ns : List Note) → is_one (get h marker) ≡ true → read_from h 0 most_entries [] ≡ Ok ns → noted h ≡ Ok ns
unfolding noted
noted_read h ns marked read = rw marked read

pub shut_is : (h F : Map) → is_one (get h marker) ≡ false → StandsFor F h → outside h ≡ F
shut_is h F shut is = one_map (outside h) F (sym (stands_shut h shut) ∙ is)

pub read_is : (h F : Map) (ns : List Note) → is_one (get h marker) ≡ true → read_from h 0 most_entries [] ≡ Ok ns → StandsFor F h → outside (put_over ns h) ≡ F
read_is h F ns marked read is = one_map (outside (put_over ns h)) F (sym (stands_read h ns marked read) ∙ is)

-- it can't be refused and not be
pub not_both_read : (h F : Map) (bad : List ℕ) → StandsFor F h → stands h ≡ Err bad → ⊥
not_both_read h F bad is refused = let clash : ◌≡◌ {A = Result Map (List ℕ)} (Ok F) (Err bad) = sym is ∙ refused in cc

pub settled_clean : (h : Map) → is_one (get h marker) ≡ false → Clean ≡ settled h
unfolding settled
settled_clean h shut = rw shut refl

pub notes_long : (d : Map) (places : List Place) → length (notes_in d places) ≡ length places
notes_long d places = length-map places (note_in d)

pub settled_undone : (h : Map) (places : List Place) → is_one (get h marker) ≡ true → read_from h 0 most_entries [] ≡ Ok (notes_in h places) → Undone (length places) ≡ settled h
unfolding settled noted
settled_undone h places marked read = rw (marked, read) (ap Undone (sym (notes_long h places)))

-- with nothing dirty each crash image stands for what the volume does
pub clean_image : (s : State) (h F : Map) → s.held ≡ h → NothingDirty s → StandsFor F h → (d : Map) → Images s d → StandsFor F d
clean_image s h F is clean stands_for d image = ap stands (clean_same s h is clean d image) ∙ stands_for

-- what is short on an image is short at the start
clean_short : (s : State) → NothingDirty s → (d : Map) → Images s d → ShortAs s.capacity s.held d
clean_short s clean d image name short = subst (λ (m : Map). IsShort s.capacity m name) (clean_same s s.held refl clean d image) short

-- with no note that is read nothing is
plain_short : (capacity : Option ℕ) (h F : Map) (d : Map) → StandsPlainly F d → ShortAs capacity h d
plain_short capacity h F d plain name short = absurd (not_empty short.front short.rest short.note (sym short.read ∙ plain.1))

pub looked_short : (s t : State) → NothingDirty s → Looks s t → GoesOn s t (ShortAs s.capacity s.held)
looked_short s t clean looks = weaker s t (Images s) (ShortAs s.capacity s.held) (clean_short s clean) looks.goes

pub short_after : (s t u : State) → NothingDirty s → Looks s t → GoesOn t u (ShortAs t.capacity t.held) → GoesOn s u (ShortAs s.capacity s.held)
short_after s t u clean looks then =
    joined s t u (ShortAs s.capacity s.held) (looked_short s t clean looks)
    (weaker t u (ShortAs t.capacity t.held) (ShortAs s.capacity s.held) (λ d shorts. subst (λ (c : Option ℕ). ShortAs c s.held d) looks.goes.capacity (subst (λ (m : Map). ShortAs t.capacity m d) looks.stays.held shorts)) then)

-- a call that only looks
module _ (s t : State) (F : Map) (clean : NothingDirty s) (stands_for : StandsFor F s.held) (looks : Looks s t) where
  pub looked_goes : GoesOn s t (StandsFor F)
  looked_goes = weaker s t (Images s) (StandsFor F) (clean_image s s.held F refl clean stands_for) looks.goes

  pub looked_clean : NothingDirty t
  looked_clean q now = clean q (looks.stays.dirty q now)

  pub looked_stands : StandsFor F t.held
  looked_stands = ap stands looks.stays.held ∙ stands_for

  pub settles_looked : {T E : Type 0} (r : Result T E) → IsErr r → Settles s t F r
  settles_looked r fails = record {
    goes = looked_goes;
    leaves = λ d image. clean_image t t.held F refl looked_clean looked_stands d image;
    stands = looked_stands;
    others = λ ns is q out none. ap (λ (m : Map). get m q) looks.stays.held ∙ unnoted_is s.held F ns stands_for is q out none;
    ok = at_err _ r fails;
    short = looked_short s t clean looks;
  }

-- the notes are put back
module _ (s : State) (places : List Place) (entries : ℕ) (read : IsRead s places entries) (F : Map) (stands_for : StandsFor F s.held) where
  abbrev pub ns : List Note
  ns = notes_in s.held places

  pub is_new : are_new [] ns ≡ true
  is_new = notes_new s ns read.clean read.marked read.read

  -- what settling may change before the area is taken away
  abbrev loose : List ℕ → Type 0
  loose q = (IsUnread entries q ⊎ IsNoted ns q) ⊎ (q ≡ marker)

  touched_short : (u : State) → Touches (λ q. (IsUnread entries q ⊎ IsNoted ns q) ⊎ (q ≡ marker)) s u → GoesOn s u (ShortAs s.capacity s.held)
  touched_short u touches =
      weaker s u (AgreesBeside loose s) (ShortAs s.capacity s.held)
      (λ d agrees. short_as s.capacity s.held d ns entries read.read read.marked read.count (new_outside [] ns is_new)
      (λ q ne not_noted not_unread. agrees q (⊎_elim (read.clean q) (⊎_elim (⊎_elim not_unread not_noted) ne)))) touches.goes

  pub spare_now : Spare s F ns entries
  spare_now = subst (λ (n : ℕ). Spare s F ns n) read.count (subst (λ (G : Map). Spare s G ns (first_shut s.held 0 most_entries)) (read_is s.held F ns read.marked read.read stands_for) (keeps_read s ns read.clean read.marked read.read))

  module _ (t : State) (spares : Spares s t F ns entries) where
    pub notes_still : notes_in t.held places ≡ ns
    notes_still = notes_in_same s.held t.held entries places spares.below read.below

    first_touches : Touches loose s t
    first_touches = touches_more (IsUnread entries) loose s t (λ q unread. inl (inl unread)) spares.touches

    undoes_keeps : (u : State) → GoesOn s u (StandsFor F) → Keeps u F ns → Touches loose s u → {T E : Type 0} (r : Result T E) → IsErr r → Undoes s u F ns r
    undoes_keeps u goes keeps touches r fails = record {
      goes = goes;
      leaves = keeps_image u F ns keeps;
      stands = keeps.robust u.held (λ q free. refl);
      others = keeps.others;
      ok = at_err _ r fails;
      short = touched_short u touches;
    }

    pub undoes_removed : {T E : Type 0} (r : Result T E) → IsErr r → Undoes s t F ns r
    undoes_removed r fails = undoes_keeps t spares.goes spares.spare.keeps first_touches r fails

    module _ (u : State) {A B : Type 0} (back : Result A B) (puts : PutsBack t u F ns back) where
      goes_back : GoesOn s u (StandsFor F)
      goes_back = joined s t u (StandsFor F) spares.goes puts.goes

      second_touches : Touches loose s u
      second_touches = touches_then loose s t u first_touches (touches_more (IsNoted ns) loose t u (λ q noted_q. inl (inr noted_q)) puts.touches)

      pub undoes_put : {T E : Type 0} (r : Result T E) → IsErr r → Undoes s u F ns r
      undoes_put r fails = undoes_keeps u goes_back puts.keeps second_touches r fails

      pub byte_put : (name : List ℕ) → name ≡ marker → HoldsByte u.held name
      byte_put name is = keeps_byte u F ns name is puts.keeps

      module _ (clean : NothingDirty u) (is_back : outside u.held ≡ F) (v : State) (name : List ℕ) (is : name ≡ marker) (w : Result (Unit {0}) Failed) (seals : SealsByte name 0 u v w) where
        goes_shut : GoesOn s v (StandsFor F)
        goes_shut = joined s u v (StandsFor F) goes_back (shut_goes u v F ns name puts.keeps clean is_back is w seals)

        stands_now : StandsFor F v.held
        stands_now = ⊎_elim (λ f. f) (λ f. f) (halfway_either u F F (back_halfway u F ns puts.keeps clean is_back) v.held (λ q ne. seals.only.others q (λ e. ne (e ∙ is))))

        outside_now : outside v.held ≡ F
        outside_now = (unshut u v F ns name puts.keeps clean is_back is w seals {U = Unit {0}} {G = Unit {0}} (Err tt) refl).outside

        same_outside : (q : List ℕ) → is_inside q ≡ false → get v.held q ≡ get F q
        same_outside q out = sym (ap (λ (m : Map). get m q) (sym outside_now) ∙ get-outside v.held q ∙ ap (λ b. cond (not b) (get v.held q) None) out)

        pub undoes_shut : {T E : Type 0} (r : Result T E) → OnOk r (IsShut v F) → Undoes s v F ns r
        undoes_shut r ok = record {
          goes = goes_shut;
          leaves = (unshut u v F ns name puts.keeps clean is_back is w seals {U = Unit {0}} {G = Unit {0}} (Err tt) refl).leaves;
          stands = stands_now;
          others = λ q out none. same_outside q out;
          ok = ok;
          short = touched_short v (touches_then loose s u v second_touches (touches_name loose u v name (λ q e. inr (e ∙ is)) seals.only.goes seals.only.others seals.only.dirty));
        }

-- after the marker was shut, or where it was, the area is taken away
pub settles_cleared : {T E U G : Type 0} (s t u : State) (F : Map) (r : Result T E) (e : Result U G) → GoesOn s t (StandsFor F) → GoesOn s t (ShortAs s.capacity s.held) → Clears t u F r → OnOk e (OnOk r (IsFree u × (u.held ≡ F)) → IsFree u × (u.held ≡ F)) → Settles s u F e
settles_cleared s t u F r e first short clears ok = record {
  goes = joined s t u (StandsFor F) first (plainly t u F clears.goes);
  leaves = clears.leaves;
  stands = clears.stands;
  others = λ ns is q out none. sym (ap (λ (m : Map). get m q) (sym clears.outside) ∙ get-outside u.held q ∙ ap (λ b. cond (not b) (get u.held q) None) out);
  ok = at e ok;
  short = joined s t u (ShortAs s.capacity s.held) short (weaker t u (StandsPlainly F) (ShortAs s.capacity s.held) (plain_short s.capacity s.held F) clears.goes);
}
  where
    at : {U G : Type 0} (e : Result U G) → OnOk e (OnOk r (IsFree u × (u.held ≡ F)) → IsFree u × (u.held ≡ F)) → OnOk e (IsFree u × (u.held ≡ F))
    at (Ok x) then = then clears.ok
    at (Err x) then = tt

-- after a call that only looked
pub settles_after : {T E : Type 0} (s t u : State) (F : Map) (r : Result T E) → NothingDirty s → StandsFor F s.held → Looks s t → Settles t u F r → Settles s u F r
settles_after s t u F r clean stands_for looks then = record {
  goes = joined s t u (StandsFor F) (looked_goes s t F clean stands_for looks) then.goes;
  leaves = then.leaves;
  stands = then.stands;
  others = λ ns is. then.others ns (ap noted looks.stays.held ∙ is);
  ok = then.ok;
  short = short_after s t u clean looks then.short;
}

-- where putting back has failed
pub settles_undone : {T E U G : Type 0} (s t u : State) (F : Map) (items places : List Place) (r : Result T E) (e : Result U G) → NothingDirty s → StandsFor F s.held → Looks s t → is_one (get s.held marker) ≡ true → read_from s.held 0 most_entries [] ≡ Ok (notes_in s.held items) → places ≡ items → Undoes t u F (notes_in t.held places) r → IsErr e → Settles s u F e
settles_undone s t u F items places r e clean stands_for looks marked read same_places undoes fails = record {
  goes = joined s t u (StandsFor F) (looked_goes s t F clean stands_for looks) undoes.goes;
  leaves = undoes.leaves;
  stands = undoes.stands;
  others = λ ns is q out none. undoes.others q out (ap (λ (l : List Note). note_of l q) (same_notes ns is) ∙ none);
  ok = at_err _ e fails;
  short = short_after s t u clean looks undoes.short;
}
  where
    same_notes : (ns : List Note) → noted s.held ≡ Ok ns → notes_in t.held places ≡ ns
    same_notes ns is = ap (λ (l : List Place). notes_in t.held l) same_places ∙ ap (λ (m : Map). notes_in m items) looks.stays.held ∙ one_list (notes_in s.held items) ns (sym (noted_read s.held (notes_in s.held items) marked read) ∙ is)

-- a refusal that is handed on
pub bad_handed : {A : Type 0} (B : Type 0) (r : Result A UndoError) (e : UndoError) (P Q : List ℕ → Type 0) → IsErrAnd r (λ x. x ≡ e) → ((name : List ℕ) → P name → Q name) → IfBad {A = B} (Err e) P → IfBad r Q
bad_handed {A} B (Ok x) e P Q is then bad = absurd is
bad_handed {A} B (Err NoMemory) e P Q is then bad = tt
bad_handed {A} B (Err Fault) e P Q is then bad = tt
bad_handed {A} B (Err (BadRollback name)) e P Q is then bad = then name (subst (λ (x : UndoError). IfBad {A = B} (Err x) P) (sym is) bad)
bad_handed {A} B (Err (Full name)) e P Q is then bad = tt

pub full_handed : {A : Type 0} (B : Type 0) (r : Result A UndoError) (e : UndoError) (P Q : List ℕ → Type 0) → IsErrAnd r (λ x. x ≡ e) → ((name : List ℕ) → P name → Q name) → IfFull {A = B} (Err e) P → IfFull r Q
full_handed {A} B (Ok x) e P Q is then full = absurd is
full_handed {A} B (Err NoMemory) e P Q is then full = tt
full_handed {A} B (Err Fault) e P Q is then full = tt
full_handed {A} B (Err (BadRollback name)) e P Q is then full = tt
full_handed {A} B (Err (Full name)) e P Q is then full = then name (subst (λ (x : UndoError). IfFull {A = B} (Err x) P) (sym is) full)

pub full_weaker : {A : Type 0} (r : Result A UndoError) (P Q : List ℕ → Type 0) → ((name : List ℕ) → P name → Q name) → IfFull r P → IfFull r Q
full_weaker (Ok x) P Q then full = tt
full_weaker (Err NoMemory) P Q then full = tt
full_weaker (Err Fault) P Q then full = tt
full_weaker (Err (BadRollback name)) P Q then full = tt
full_weaker (Err (Full name)) P Q then full = then name full

pub bad_weaker : {A : Type 0} (r : Result A UndoError) (P Q : List ℕ → Type 0) → ((name : List ℕ) → P name → Q name) → IfBad r P → IfBad r Q
bad_weaker (Ok x) P Q then bad = tt
bad_weaker (Err NoMemory) P Q then bad = tt
bad_weaker (Err Fault) P Q then bad = tt
bad_weaker (Err (BadRollback name)) P Q then bad = then name bad
bad_weaker (Err (Full name)) P Q then bad = tt

pub must_fail : {T E : Type 0} (r : Result T E) → IfOk r (λ x. ⊥) → IsErr r
must_fail (Ok x) never = absurd never
must_fail (Err e) never = refl

-- what is known after Ok
pub known_free : {T E : Type 0} (t u : State) (r : Result T E) → OnOk r ((F : Map) × StandsFor F t.held) → ((F : Map) → StandsFor F t.held → Settles t u F r) → IfOk r (λ x. IsFree u)
known_free t u (Ok x) known settles = (settles known.0 known.1).ok.0
known_free t u (Err e) known settles = tt

pub known_value : {T E : Type 0} (h : Map) (t u : State) (r : Result T E) → t.held ≡ h → OnOk r ((F : Map) × StandsFor F t.held) → ((F : Map) → StandsFor F t.held → Settles t u F r) → IfOk r (λ x. stands h ≡ Ok u.held)
known_value h t u (Ok x) is known settles = ap stands (sym is) ∙ known.1 ∙ ap Ok (sym (settles known.0 known.1).ok.1)
known_value h t u (Err e) is known settles = tt

-- the marker that was read
pub at_marker : (h : Map) (name : List ℕ) (b c : Bool) → b ≡ is_one (get h name) → name ≡ marker → b ≡ c → is_one (get h marker) ≡ c
at_marker h name b c value is test = sym (value ∙ ap (λ (n : List ℕ). is_one (get h n)) is) ∙ test

-- a marker that isn't open
pub shut_looked : (s t : State) (F : Map) → NothingDirty s → StandsFor F s.held → Looks s t → is_one (get s.held marker) ≡ false → IsShut t F
shut_looked s t F clean stands_for looks shut = shut_from t F (ap (λ (m : Map). is_one (get m marker)) looks.stays.held ∙ shut) (looked_clean s t F clean stands_for looks) (ap outside looks.stays.held ∙ shut_is s.held F shut stands_for)

-- by what the volume stands for
pub by_answer : (s t : State) → NothingDirty s → (r : Result Map (List ℕ)) → stands s.held ≡ r → ((F : Map) → StandsFor F s.held → GoesOn s t (ShortAs s.capacity s.held)) → ((bad : List ℕ) → stands s.held ≡ Err bad → Looks s t) → GoesOn s t (ShortAs s.capacity s.held)
by_answer s t clean (Ok F) is settles looks = settles F is
by_answer s t clean (Err bad) is settles looks = looked_short s t clean (looks bad is)
