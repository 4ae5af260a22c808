-- What a run leaves on any volume, by how it ends.
use Rattle.std.proofs.Common.{◌≡◌, ◌⊎◌, inl, inr, ⊎_elim, ℕ, arith, false, not, cond, List, Option, None, Result, Ok, Err, refl, sym, ap, subst, ◌∙◌}
use Rattle.std.specs.Prelude.{IsErr}
use Rattle.std.specs.FinMap.{get}
use Rattle.mi_text.specs.declared.answers.Settled.{Settled}
use Rattle.mi_text.specs.declared.answers.Settled.TheVariants.{Clean}
use Rattle.mi_text.specs.Maps.{Name}
use Rattle.mi_volume.specs.Maps.{Map}
use Rattle.mi_volume.specs.State.{State, GoesOn, Rose, Passes, NothingDirty}
use Rattle.mi_volume.proofs.Moments.{started, weaker, joined}
use Rattle.mi_source.specs.Paths.{Files}
use Rattle.mi_undo.specs.Names.{is_inside}
use Rattle.mi_undo.specs.Notes.{Note, note_of}
use Rattle.mi_undo.specs.Short.{IsShort}
use Rattle.mi_undo.specs.Room.{NeverShort, ShortAs}
use Rattle.mi_undo.specs.Stands.{StandsFor, stands, back_by, settled, noted, outside}
use Rattle.mi_undo.specs.Keeps.{Each}
use Rattle.mi_undo.specs.Answers.{IfBad, IfFull}
use Rattle.mi_undo.specs.declared.fault.UndoError.{UndoError}
use Rattle.mi_undo.specs.declared.fault.UndoError.TheVariants as undo
use Rattle.mi_undo.proofs.StandsLemmas.{get-outside, clean_same}
use Rattle.mi_base.specs.Machine.{machine_of}
use Rattle.mi_base.specs.declared.answers.Cause.{Cause}
use Rattle.mi_base.specs.declared.answers.Cause.TheVariants.{BadWords, VolumeFault, BadRollback, RecoveryFull, SourceFault}
use Rattle.mi_base.specs.declared.answers.Kind.{Kind}
use Rattle.mi_base.specs.declared.answers.Kind.TheVariants.{Done, Listed, Recovered, Refused, Suspended, NoMemory}
use Rattle.mi_model.specs.Causes.{BelowCount, AnswersCommand, Caused}
use Rattle.mi_model.specs.Leaves.{MayStand, AtExit, UnnotedStay, ReadsAfter, Cleans}
use Rattle.mi_model.specs.Logs.{IsLog}
use Rattle.mi_model.specs.Outcome.{Handed, of_machine, of_former, of_words, outcome, IsWithoutRoom, ComesTo}
use Rattle.mi_model.specs.PackageOutcome.{Outcome, only}
use Rattle.mi_model.specs.PackageOutcome as o
use Rattle.mi_model.specs.Texts.{Text}
use Rattle.mi_model.specs.TopCall.{handed}
use Rattle.mi_model.specs.Words.{Command, Package, Selftest, Clients, Products, Recover, walks, command_of}
use Rattle.mi_commands.specs.declared.reply.Reply.{Reply}
use Rattle.mi_carry.specs.OneMap.{LeavesOne}
use Rattle.mi_commands.specs.Answers.{IsTold, SourceFails, Begins}
use Rattle.mi_commands.specs.Begun.{AtRefusal}
use Rattle.mi_commands.specs.Endings.{RepliesUnsettled}
use Rattle.mi_commands.specs.Replies.{log_in, log_of, WantsMemory, Replies, Says, SettledReads, IsHanded, Serves, Leaves, Runs}
use Rattle.mi_commands.proofs.BeforeLemmas.{may_stand_as, exit_as, reads_as, caused_from, begins_as, says_as, cleans_from, recovers_from}
use Rattle.mi_commands.proofs.EndLemmas.{below_before}
use Rattle.mi_commands.proofs.OneLemmas.{one_former, one_then}
use Rattle.mi_commands.proofs.QuietLemmas.{says_whole, says_front, memory_log, memory_begins, answers_memory}

pub ok_same : (r : Result Map Name) (F H : Map) → r ≡ Ok F → r ≡ Ok H → F ≡ H
ok_same r F H is was = let both = sym is ∙ was in cc

not_bad : (r : Result Map Name) (F : Map) (bad : Name) → r ≡ Ok F → r ≡ Err bad → ⊥
not_bad r F bad is was = let clash = sym is ∙ was in cc

get_outer : (h F : Map) → outside h ≡ F → (q : List ℕ) → is_inside q ≡ false → get h q ≡ get F q
get_outer h F is q out = sym (get-outside h q ∙ ap (λ b. cond (not b) (get h q) None) out) ∙ ap (λ (m : Map). get m q) is

-- recovery has room where nothing is short that wasn't so before
still_recovers : (s t : State) → GoesOn s t (ShortAs s.capacity s.held) → ((name : List ℕ) → ¬ IsShort s.capacity s.held name) → GoesOn s t (NeverShort s.capacity)
still_recovers s t goes room = weaker s t (ShortAs s.capacity s.held) (NeverShort s.capacity) (λ d shorts small name short. room name (shorts name short)) goes

-- ---- what is asked for

of_asked : (h : Handed) (command : Command) (r : Result Map Name) → command_of h.words ≡ Ok command → stands h.held ≡ r → outcome h ≡ of_former h command r
unfolding outcome
of_asked h command r asked is = ap (of_words h) asked ∙ ap (of_former h command) is

of_refused : (h : Handed) (place : ℕ) → command_of h.words ≡ Err place → outcome h ≡ only (o.Refused (BadWords place))
unfolding outcome
of_refused h place bad = ap (of_words h) bad

-- ---- behind a settled volume

reads_after : (told : Type 0) (d0 F : Map) (out : Outcome) (kind : Kind) (h : Map) → SettledReads told F out kind h → ReadsAfter told d0 F out kind h
reads_after told d0 F out Done h is = is
reads_after told d0 F out Listed h is = is
reads_after told d0 F out (Recovered settled) h is = is
reads_after told d0 F out (Refused (BadWords place)) h is = tt
reads_after told d0 F out (Refused VolumeFault) h is = λ ns noted q outer none. get_outer h F is q outer
reads_after told d0 F out (Refused (BadRollback name)) h is = tt
reads_after told d0 F out (Refused (RecoveryFull name)) h is = tt
reads_after told d0 F out (Refused other) h is = is
reads_after told d0 F out (Suspended pause) h is = tt
reads_after told d0 F out NoMemory h is = tt

module _ (volume source : Type 0) (s t u : State) (files : Files) (words : List Text) (now : ℕ) (command : Command) (found : Settled) (source_fails : Type 0) (kind : Kind) (n : ℕ) (bytes : List ℕ) where
  abbrev h : Handed
  h = handed words files s now

  abbrev inner : Outcome
  inner = of_machine h t.held command (machine_of t.held)

  abbrev told : Type 0
  told = IsTold volume source (Ok command)

  pub is_handed : Passes s t → (volume → found ≡ settled s.held) → IsHanded volume h files t.capacity now found
  is_handed pass is = record { same_files = refl; same_capacity = sym pass.capacity; same_now = refl; finds = λ v. sym (is v) }

  same_outcome : (out : Outcome) → command_of words ≡ Ok command → ComesTo h out → (volume → stands s.held ≡ Ok t.held) → (volume → (name : Name) → ¬ IsShort s.capacity s.held name) → volume → inner ≡ out
  same_outcome out asked comes value room v =
      sym (comes.room (λ name without. room v name without.short) ∙ of_asked h command (Ok t.held) asked (value v))

  pub served_runs : (volume → found ≡ settled s.held) → (volume → stands s.held ≡ Ok t.held) → (volume → (name : Name) → ¬ IsShort s.capacity s.held name) → (volume → NothingDirty s → (F : Map) → StandsFor F s.held → GoesOn s t (StandsFor F)) → Passes s t → Passes t u
      → Serves volume told t u inner command (λ x. x ≡ found) source_fails kind n bytes → (out : Outcome) → command_of words ≡ Ok command → ComesTo h out → Runs volume told s u out (Ok command) source_fails kind n bytes
  served_runs is value room goes pass then serves out asked comes = record {
    stops = λ v clean F stood.
        let at : t.held ≡ F = ok_same (stands s.held) t.held F (value v) stood in
        joined s t u (MayStand told F out (BelowCount s.faults u.faults) kind)
        (weaker s t (StandsFor F) (MayStand told F out (BelowCount s.faults u.faults) kind) (λ d standing. inl standing) (goes v clean F stood))
        (weaker t u (MayStand told F inner (BelowCount t.faults u.faults) kind) (MayStand told F out (BelowCount s.faults u.faults) kind)
        (λ d. may_stand_as volume told told (λ x. x) (λ x. x.0) out inner same F (BelowCount s.faults u.faults) (BelowCount t.faults u.faults) kind d (below_before s.faults t.faults u.faults pass.faults then.faults))
        (subst (λ (x : Map). GoesOn t u (MayStand told x inner (BelowCount t.faults u.faults) kind)) at (serves.stops v)));
    leaves = λ v clean F stood d image.
        let at : t.held ≡ F = ok_same (stands s.held) t.held F (value v) stood in
        exit_as volume told told (λ x. x) (λ x. x.0) out inner same F kind d (subst (λ (x : Map). Each u (AtExit told x inner kind)) at (serves.leaves v) d image);
    reads = λ v F stood.
        let at : t.held ≡ F = ok_same (stands s.held) t.held F (value v) stood in
        reads_after told s.held F out kind u.held (reads_as volume told told (λ x. x) (λ x. x.0) out inner same F kind u.held (subst (λ (x : Map). SettledReads told x inner kind u.held) at (serves.reads v)));
    caused = caused_from volume told told (λ x. x) (λ x. x.0) s t u out inner source_fails source_fails (λ x. x) same pass kind serves.caused;
    begins = begins_as volume told told (λ x. x) (λ x. x.0) out inner same n kind serves.begins;
    log = says_as volume told told (λ x. x) (λ x. x.0) out inner same (λ x. volume → x ≡ settled s.held) (λ x. x ≡ found) (λ x e v. e ∙ is v) (walks (Ok command)) n kind bytes serves.log;
  }
    where
      same : volume → inner ≡ out
      same = same_outcome out asked comes value room

  pub served_leaves : (volume → stands s.held ≡ Ok t.held) → (volume → NothingDirty s → GoesOn s t (ShortAs s.capacity s.held)) → (volume → NothingDirty s → (F : Map) → StandsFor F s.held → GoesOn s t (StandsFor F)) → Passes s t → Passes t u → Serves volume told t u inner command (λ x. x ≡ found) source_fails kind n bytes → Leaves volume s u (Ok command) kind
  served_leaves value short goes pass then serves = record {
    unread = λ v clean bad stood. absurd (not_bad (stands s.held) t.held bad (value v) stood);
    unread_stays = λ v bad stood. absurd (not_bad (stands s.held) t.held bad (value v) stood);
    cleans = λ v. cleans_from s t u pass kind (serves.cleans v);
    recovers = λ v clean room. recovers_from s t u pass.capacity (still_recovers s t (short v clean) room) (serves.recovers v);
    one_map = λ v clean F stood.
        let at : t.held ≡ F = ok_same (stands s.held) t.held F (value v) stood in
        let one = serves.one_map v in
        (one.0, one_then s t u F one.0 kind pass.faults then.faults (goes v clean F stood) (subst (λ (x : Map). LeavesOne t u x one.0 kind) at one.1));
    answers = serves.answers;
  }

-- ---- a volume that isn't settled

-- what settling that failed leaves
pub record Unsettled (volume : Type 0) (s t : State) (e : UndoError) : Type 0 where
  pub goes : volume → NothingDirty s → (F : Map) → StandsFor F s.held → GoesOn s t (StandsFor F)
  pub leaves : volume → NothingDirty s → (F : Map) → StandsFor F s.held → Each t (StandsFor F)
  pub others : volume → (F : Map) (ns : List Note) → stands s.held ≡ Ok F → noted s.held ≡ Ok ns → (q : List ℕ) → is_inside q ≡ false → note_of ns q ≡ None → get t.held q ≡ get F q
  pub unread : volume → NothingDirty s → (bad : List ℕ) → stands s.held ≡ Err bad → GoesOn s t (λ d. d ≡ s.held)
  pub unread_stays : volume → (bad : List ℕ) → stands s.held ≡ Err bad → t.held ≡ s.held
  pub bad : volume → (name : List ℕ) → e ≡ undo.BadRollback name → stands s.held ≡ Err name
  pub fault : e ≡ undo.Fault → Rose s t
  pub short : volume → NothingDirty s → GoesOn s t (ShortAs s.capacity s.held)
  pub full : (name : List ℕ) → e ≡ undo.Full name → IsShort s.capacity s.held name

-- a refusal while settling
abbrev pub IsEarly : Cause → Type 0
IsEarly VolumeFault = Unit {0}
IsEarly (BadRollback name) = Unit {0}
IsEarly (RecoveryFull name) = Unit {0}
IsEarly other = ⊥

-- where the area is refused the volume isn't short
bad_not_short : (capacity : Option ℕ) (d : Map) (bad name : Name) → stands d ≡ Err bad → ¬ IsShort capacity d name
unfolding stands
bad_not_short capacity d bad name is short = let clash : Ok (outside _) ≡ Err bad = ap (back_by d) (sym short.read) ∙ is in cc

module _ (volume source : Type 0) (s t : State) (files : Files) (words : List Text) (now : ℕ) (command : Command) (source_fails : Type 0) where
  abbrev asked_told : Type 0
  asked_told = IsTold volume source (Ok command)

  abbrev asked_of : Handed
  asked_of = handed words files s now

  -- the refusal of a name that is read and bad
  bad_outcome : (out : Outcome) → command_of words ≡ Ok command → ComesTo asked_of out → (name : Name) → stands s.held ≡ Err name → out ≡ only (o.Refused (BadRollback name))
  bad_outcome out asked comes name is = comes.room (λ other without. bad_not_short s.capacity s.held name other is without.short) ∙ of_asked asked_of command (Err name) asked is

  full_outcome : (out : Outcome) → command_of words ≡ Ok command → ComesTo asked_of out → (name : Name) → IsShort s.capacity s.held name → out ≡ only (o.Refused (RecoveryFull name))
  full_outcome out asked comes name short = comes.short name (record { command = command; asked = asked; short = short })

  before_answers : (cause : Cause) → IsEarly cause → (c : Command) → AnswersCommand c (Refused cause)
  before_answers VolumeFault is (Package recorded folder words) = tt
  before_answers VolumeFault is (Selftest n words) = tt
  before_answers VolumeFault is Clients = tt
  before_answers VolumeFault is Products = tt
  before_answers VolumeFault is Recover = tt
  before_answers (BadRollback name) is (Package recorded folder words) = tt
  before_answers (BadRollback name) is (Selftest n words) = tt
  before_answers (BadRollback name) is Clients = tt
  before_answers (BadRollback name) is Products = tt
  before_answers (BadRollback name) is Recover = tt
  before_answers (RecoveryFull name) is (Package recorded folder words) = tt
  before_answers (RecoveryFull name) is (Selftest n words) = tt
  before_answers (RecoveryFull name) is Clients = tt
  before_answers (RecoveryFull name) is Products = tt
  before_answers (RecoveryFull name) is Recover = tt
  before_answers other is c = absurd is

  -- one answer of a run whose volume isn't settled
  unsettled_at : (e : UndoError) (kind : Kind) (bytes : List ℕ) (out : Outcome) → Unsettled volume s t e → Caused s.faults t.faults volume asked_told out (Rose s t) source_fails kind → (asked_told → Begins out 0 kind)
      → Says (IsLog volume asked_told (λ x. volume → x ≡ settled s.held) (walks (Ok command)) out kind 0) kind bytes → ((F d : Map) → StandsFor F d → AtExit asked_told F out kind d) → ((F : Map) → UnnotedStay s.held F t.held → ReadsAfter asked_told s.held F out kind t.held) → Runs volume asked_told s t out (Ok command) source_fails kind 0 bytes
  unsettled_at e kind bytes out u caused begins log exit reads = record {
    stops = λ v clean F stood. weaker s t (StandsFor F) (MayStand asked_told F out (BelowCount s.faults t.faults) kind) (λ d standing. inl standing) (u.goes v clean F stood);
    leaves = λ v clean F stood d image. exit F d (u.leaves v clean F stood d image);
    reads = λ v F stood. reads F (λ ns is q outer none. u.others v F ns stood is q outer none);
    caused = caused;
    begins = begins;
    log = log;
  }

  at_reply : (r : Reply) (kind : Kind) (out : Outcome) → r.kind ≡ kind → r.reached ≡ 0 → Runs volume asked_told s t out (Ok command) source_fails kind 0 (log_in r) → Runs volume asked_told s t out (Ok command) source_fails r.kind r.reached (log_in r)
  at_reply r kind out is none runs =
      subst (λ (n : ℕ). Runs volume asked_told s t out (Ok command) source_fails r.kind n (log_in r)) (sym none)
      (subst (λ (k : Kind). Runs volume asked_told s t out (Ok command) source_fails k 0 (log_in r)) (sym is) runs)

  memory_runs : (e : UndoError) (r : Reply) (out : Outcome) → Unsettled volume s t e → WantsMemory (walks (Ok command)) r → r.reached ≡ 0 → Runs volume asked_told s t out (Ok command) source_fails r.kind r.reached (log_in r)
  memory_runs e r out u wants none = at_reply r NoMemory out wants.0 none
      (unsettled_at e NoMemory (log_in r) out u tt (λ t. memory_begins out)
      (says_front (IsLog volume asked_told (λ x. volume → x ≡ settled s.held) (walks (Ok command)) out NoMemory 0) (log_in r) (log_of (walks (Ok command)) (settled s.held) NoMemory) (wants.1 (settled s.held)) (memory_log volume asked_told (λ x. volume → x ≡ settled s.held) (walks (Ok command)) out (settled s.held) (λ v. refl)))
      (λ F d standing. standing) (λ F others. tt))

  early_log : (cause : Cause) → IsEarly cause → (out : Outcome) → IsLog volume asked_told (λ x. volume → x ≡ settled s.held) (walks (Ok command)) out (Refused cause) 0 (log_of (walks (Ok command)) Clean (Refused cause))
  early_log VolumeFault is out = record { settled = Clean; begun = out.begun; tells = inr refl; begins = λ t. refl; is = refl }
  early_log (BadRollback name) is out = record { settled = Clean; begun = out.begun; tells = refl; begins = λ t. refl; is = refl }
  early_log (RecoveryFull name) is out = record { settled = Clean; begun = out.begun; tells = refl; begins = λ t. refl; is = refl }
  early_log other is out = absurd is

  early_reads : (cause : Cause) → IsEarly cause → (out : Outcome) (F : Map) → UnnotedStay s.held F t.held → ReadsAfter asked_told s.held F out (Refused cause) t.held
  early_reads VolumeFault is out F others = others
  early_reads (BadRollback name) is out F others = tt
  early_reads (RecoveryFull name) is out F others = tt
  early_reads other is out F others = absurd is

  -- the same of a fault, and of a refusal that the outcome is
  fault_begins : (out : Outcome) → asked_told → Begins out 0 (Refused VolumeFault)
  fault_begins out t = record { own = λ own. absurd own; most = omega arith; begun = inl refl }

  refusal_begins : (cause : Cause) (out : Outcome) → (volume → out ≡ only (o.Refused cause)) → asked_told → Begins out 0 (Refused cause)
  refusal_begins cause out is t =
      let none = sym (ap (λ (x : Outcome). x.reached) (is t.0)) in
      record { own = λ own. none; most = omega arith; begun = at cause none }
    where
      at : (cause : Cause) → 0 ≡ out.reached → AtRefusal out 0 cause
      at VolumeFault is_none = inl refl
      at SourceFault is_none = inl refl
      at other is_none = is_none

  -- a refusal while settling, with its log, or want of memory
  early_runs : (e : UndoError) (cause : Cause) (r : Reply) (out : Outcome) → IsEarly cause → Unsettled volume s t e → Caused s.faults t.faults volume asked_told out (Rose s t) source_fails (Refused cause) → (asked_told → Begins out 0 (Refused cause)) → Replies (walks (Ok command)) Clean (Refused cause) r
      → Runs volume asked_told s t out (Ok command) source_fails r.kind r.reached (log_in r)
  early_runs e cause r out early u caused begins is = ⊎_elim
      (λ x. at_reply r (Refused cause) out x.0 is.reached
      (unsettled_at e (Refused cause) (log_in r) out u caused begins
      (says_whole (IsLog volume asked_told (λ y. volume → y ≡ settled s.held) (walks (Ok command)) out (Refused cause) 0) (Refused cause) (log_in r) (log_of (walks (Ok command)) Clean (Refused cause)) x.1 (early_log cause early out))
      (λ F d standing. standing) (early_reads cause early out)))
      (λ x. memory_runs e r out u x is.reached)
      is.answers

  pub unsettled_runs : (e : UndoError) (r : Reply) → Unsettled volume s t e → RepliesUnsettled (walks (Ok command)) e r → (out : Outcome) → command_of words ≡ Ok command → ComesTo asked_of out → Runs volume asked_told s t out (Ok command) source_fails r.kind r.reached (log_in r)
  unsettled_runs undo.NoMemory r u is out asked comes = memory_runs undo.NoMemory r out u is.0 is.1
  unsettled_runs undo.Fault r u is out asked comes = early_runs undo.Fault VolumeFault r out tt u (u.fault refl) (fault_begins out) is
  unsettled_runs (undo.BadRollback name) r u is out asked comes =
      let bad : volume → out ≡ only (o.Refused (BadRollback name)) = λ v. bad_outcome out asked comes name (u.bad v name refl) in
      early_runs (undo.BadRollback name) (BadRollback name) r out tt u (λ v. ap (λ (x : Outcome). x.end) (bad v)) (refusal_begins (BadRollback name) out bad) is
  unsettled_runs (undo.Full name) r u is out asked comes =
      let full : volume → out ≡ only (o.Refused (RecoveryFull name)) = λ v. full_outcome out asked comes name (u.full name refl) in
      early_runs (undo.Full name) (RecoveryFull name) r out tt u (λ v. ap (λ (x : Outcome). x.end) (full v)) (refusal_begins (RecoveryFull name) out full) is

  -- nothing but the former map is left
  unsettled_one : (e : UndoError) (kind : Kind) → Unsettled volume s t e → (kind ≡ Done → ⊥) → volume → NothingDirty s → (F : Map) → stands s.held ≡ Ok F → (A : Map) × LeavesOne s t F A kind
  unsettled_one e kind u undone v clean F stood = (F, one_former s t F kind (u.goes v clean F stood) (u.leaves v clean F stood) (λ done. absurd (undone done)))

  early_leaves : (e : UndoError) (cause : Cause) (r : Reply) → IsEarly cause → Unsettled volume s t e → Replies (walks (Ok command)) Clean (Refused cause) r → Leaves volume s t (Ok command) r.kind
  early_leaves e cause r early u is = ⊎_elim (λ x. at (Refused cause) x.0 (λ done. cc) (refused_cleans cause early) (before_answers cause early command)) (λ x. at NoMemory x.0 (λ done. cc) tt (answers_memory command)) is.answers
    where
      at : (kind : Kind) → r.kind ≡ kind → (kind ≡ Done → ⊥) → Cleans s t kind → AnswersCommand command kind → Leaves volume s t (Ok command) r.kind
      at kind is undone cleans answers = subst (λ (k : Kind). Leaves volume s t (Ok command) k) (sym is) (record {
        unread = u.unread;
        unread_stays = u.unread_stays;
        cleans = λ v. cleans;
        recovers = λ v clean room. still_recovers s t (u.short v clean) room;
        one_map = unsettled_one e kind u undone;
        answers = answers;
      })

      refused_cleans : (cause : Cause) → IsEarly cause → Cleans s t (Refused cause)
      refused_cleans VolumeFault is = tt
      refused_cleans (BadRollback name) is = tt
      refused_cleans (RecoveryFull name) is = tt
      refused_cleans other is = absurd is

  pub unsettled_leaves : (e : UndoError) (r : Reply) → Unsettled volume s t e → RepliesUnsettled (walks (Ok command)) e r → Leaves volume s t (Ok command) r.kind
  unsettled_leaves undo.NoMemory r u is = subst (λ (k : Kind). Leaves volume s t (Ok command) k) (sym is.0.0) (record {
    unread = u.unread;
    unread_stays = u.unread_stays;
    cleans = λ v. tt;
    recovers = λ v clean room. still_recovers s t (u.short v clean) room;
    one_map = unsettled_one undo.NoMemory NoMemory u (λ done. cc);
    answers = answers_memory command;
  })
  unsettled_leaves undo.Fault r u is = early_leaves undo.Fault VolumeFault r tt u is
  unsettled_leaves (undo.BadRollback name) r u is = early_leaves (undo.BadRollback name) (BadRollback name) r tt u is
  unsettled_leaves (undo.Full name) r u is = early_leaves (undo.Full name) (RecoveryFull name) r tt u is

-- ---- words that are refused

module _ (volume source : Type 0) (s : State) (files : Files) (words : List Text) (now : ℕ) (source_fails : Type 0) (place : ℕ) (bad : command_of words ≡ Err place) where
  abbrev words_told : Type 0
  words_told = IsTold volume source (Err place)

  words_at : (kind : Kind) (bytes : List ℕ) (out : Outcome) → Caused s.faults s.faults volume words_told out (Rose s s) source_fails kind → (words_told → Begins out 0 kind) → Says (IsLog volume words_told (λ x. volume → x ≡ settled s.held) false out kind 0) kind bytes
      → ((F d : Map) → StandsFor F d → AtExit words_told F out kind d) → ((F : Map) → ReadsAfter words_told s.held F out kind s.held) → Runs volume words_told s s out (Err place) source_fails kind 0 bytes
  words_at kind bytes out caused begins log exit reads = record {
    stops = λ v clean F stood. started s (MayStand words_told F out (BelowCount s.faults s.faults) kind);
    leaves = λ v clean F stood d image. exit F d (ap stands (clean_same s s.held refl clean d image) ∙ stood);
    reads = λ v F stood. reads F;
    caused = caused;
    begins = begins;
    log = log;
  }

  pub words_runs : (r : Reply) → Replies false Clean (Refused (BadWords place)) r → (out : Outcome) → ComesTo (handed words files s now) out → Runs volume words_told s s out (Err place) source_fails r.kind r.reached (log_in r)
  words_runs r is out comes = ⊎_elim
      (λ x. at (Refused (BadWords place)) x.0
      (words_at (Refused (BadWords place)) (log_in r) out (λ t. ap (λ (y : Outcome). y.end) refused) (λ t. let none = sym (ap (λ (y : Outcome). y.reached) refused) in record { own = λ own. none; most = omega arith; begun = none })
      (says_whole (IsLog volume words_told (λ y. volume → y ≡ settled s.held) false out (Refused (BadWords place)) 0) (Refused (BadWords place)) (log_in r) (log_of false Clean (Refused (BadWords place))) x.1 (record { settled = Clean; begun = out.begun; tells = refl; begins = λ t. refl; is = refl }))
      (λ F d standing. standing) (λ F. tt)))
      (λ x. at NoMemory x.0
      (words_at NoMemory (log_in r) out tt (λ t. memory_begins out)
      (says_front (IsLog volume words_told (λ y. volume → y ≡ settled s.held) false out NoMemory 0) (log_in r) (log_of false (settled s.held) NoMemory) (x.1 (settled s.held)) (memory_log volume words_told (λ y. volume → y ≡ settled s.held) false out (settled s.held) (λ v. refl)))
      (λ F d standing. standing) (λ F. tt)))
      is.answers
    where
      no_command : (name : Name) → ¬ IsWithoutRoom (handed words files s now) name
      no_command name without = let clash : Err place ≡ Ok without.command = sym bad ∙ without.asked in cc

      refused : out ≡ only (o.Refused (BadWords place))
      refused = comes.room no_command ∙ of_refused (handed words files s now) place bad

      at : (kind : Kind) → r.kind ≡ kind → Runs volume words_told s s out (Err place) source_fails kind 0 (log_in r) → Runs volume words_told s s out (Err place) source_fails r.kind r.reached (log_in r)
      at kind is_kind runs =
          subst (λ (n : ℕ). Runs volume words_told s s out (Err place) source_fails r.kind n (log_in r)) (sym is.reached)
          (subst (λ (k : Kind). Runs volume words_told s s out (Err place) source_fails k 0 (log_in r)) (sym is_kind) runs)

  pub words_leave : (r : Reply) → Replies false Clean (Refused (BadWords place)) r → Leaves volume s s (Err place) r.kind
  words_leave r is = ⊎_elim (λ x. at (Refused (BadWords place)) x.0 (λ done. cc) tt (inl refl)) (λ x. at NoMemory x.0 (λ done. cc) tt (inr refl)) is.answers
    where
      at : (kind : Kind) → r.kind ≡ kind → (kind ≡ Done → ⊥) → Cleans s s kind → (kind ≡ Refused (BadWords place)) ⊎ (kind ≡ NoMemory) → Leaves volume s s (Err place) r.kind
      at kind is undone cleans answers = subst (λ (k : Kind). Leaves volume s s (Err place) k) (sym is) (record {
        unread = λ v clean bad stood. started s (λ d. d ≡ s.held);
        unread_stays = λ v bad stood. refl;
        cleans = λ v. cleans;
        recovers = λ v clean room. started s (NeverShort s.capacity);
        one_map = λ v clean F stood. (F, one_former s s F kind (started s (StandsFor F)) (λ d image. ap stands (clean_same s s.held refl clean d image) ∙ stood) (λ done. absurd (undone done)));
        answers = answers;
      })

-- ---- the same, of the words

pub runs_as_read : (volume source : Type 0) (s u : State) (out : Outcome) (words words' : Result Command ℕ) (a b : ℕ) (kind : Kind) (n : ℕ) (bytes : List ℕ) → words ≡ words'
    → Runs volume (IsTold volume source words') s u out words' (SourceFails words' a b) kind n bytes → Runs volume (IsTold volume source words) s u out words (SourceFails words a b) kind n bytes
runs_as_read volume source s u out words words' a b kind n bytes is runs = subst (λ (w : Result Command ℕ). Runs volume (IsTold volume source w) s u out w (SourceFails w a b) kind n bytes) (sym is) runs

pub leaves_as_read : (volume : Type 0) (s u : State) (words words' : Result Command ℕ) (kind : Kind) → words ≡ words' → Leaves volume s u words' kind → Leaves volume s u words kind
leaves_as_read volume s u words words' kind is leaves = subst (λ (w : Result Command ℕ). Leaves volume s u w kind) (sym is) leaves

-- ---- what settling says by its answer

pub if_bad : (e : UndoError) (name : List ℕ) (P : List ℕ → Type 0) → e ≡ undo.BadRollback name → IfBad {A = Settled} (Err e) P → P name
if_bad e name P is bad = subst (λ (x : UndoError). IfBad {A = Settled} (Err x) P) is bad

pub if_full : (e : UndoError) (name : List ℕ) (P : List ℕ → Type 0) → e ≡ undo.Full name → IfFull {A = Settled} (Err e) P → P name
if_full e name P is full = subst (λ (x : UndoError). IfFull {A = Settled} (Err x) P) is full

pub never_short : {T E : Type 0} (r : Result T E) (x : T) → r ≡ Ok x → IsErr r → ⊥
never_short r x is err = let clash = subst (λ (y : Result _ _). IsErr y) is err in cc
