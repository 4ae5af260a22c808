-- Rows of a phase at one name: what they leave there, one after the other.
use Rattle.std.proofs.Common.{◌≡◌, Bool, true, false, cond, ◌||◌, List, [], ◌∷◌, ◌++◌, map, Option, Some, None, refl, sym, ap, ◌∙◌}
use Rattle.std.specs.Prelude.{◌&&◌, not, flat_map, Result, Ok, Err}
use Rattle.std.specs.List.{list_any}
use Rattle.std.specs.Option.{option_or}
use Rattle.std.specs.FinMap.{get}
use Rattle.mi_text.specs.Maps.{Name, same_name}
use Rattle.mi_text.proofs.MapLemmas.{from_same}
use Rattle.mi_base.specs.declared.entry.Entry.{Entry}
use Rattle.mi_base.specs.declared.answers.Fault.{Fault}
use Rattle.mi_base.specs.Machine.{Machine}
use Rattle.mi_changes.specs.Touches.{Touch, Set, left_at, after_touches}
use Rattle.mi_changes.proofs.TouchLemmas.{get-after_touches}
use Rattle.mi_model.specs.World.{RowEffect}
use Rattle.mi_model.specs.PhaseRows.{Touches, after_rows, by_rows}
use Rattle.mi_model.specs.Refusals.{◌>>=◌, unless}
use Rattle.mi_model.specs.Parents.{or_new}
use Rattle.mi_model_laws.specs.PhaseLaws.{in_turn, first_named}
use Rattle.mi_base.specs.Spelling.{name_of}

-- ---- answers

pub val : {A : Type 0} → A → Result A Fault → A
val a (Ok x) = x
val a (Err f) = a

pub from_ok : {A : Type 0} → (x y : A) → ◌≡◌ {A = Result A Fault} (Ok x) (Ok y) → x ≡ y
unfolding val
from_ok x y e = ap (val x) e

-- an answer that is Ok was so in its first part
pub record Bound {A B : Type 0} (x : Result A Fault) (f : A → Result B Fault) (b : B) : Type 0 where
  pub value : A
  pub is : x ≡ Ok value
  pub rest : f value ≡ Ok b

pub bound : {A B : Type 0} → (x : Result A Fault) (f : A → Result B Fault) (b : B) → (x >>= f) ≡ Ok b → Bound x f b
bound (Ok a) f b e = record { value = a; is = refl; rest = e }
bound (Err g) f b e = cc

-- one that isn't refused
pub record Unrefused {A : Type 0} (fault : Option Fault) (x : Result A Fault) (a : A) : Type 0 where
  pub none : fault ≡ None
  pub is : x ≡ Ok a

pub unrefused : {A : Type 0} → (fault : Option Fault) (x : Result A Fault) (a : A) → unless fault x ≡ Ok a → Unrefused fault x a
unrefused None x a e = record { none = refl; is = e }
unrefused (Some fault) x a e = cc

-- ---- rows one after the other

-- what rows leave at a name where this stood
abbrev pub left_by_rows : Name → List Touches → Option Entry → Option Entry
left_by_rows q [] old = old
left_by_rows q (ts ∷ rows) old = left_by_rows q rows (left_at q ts old)

pub get-after_rows : (m : Machine) (rows : List Touches) (q : Name) → get (after_rows m rows) q ≡ left_by_rows q rows (get m q)
get-after_rows m [] q = refl
get-after_rows m (ts ∷ rows) q = get-after_rows (after_touches m ts) rows q ∙ ap (left_by_rows q rows) (get-after_touches m ts q)

pub after-append : (m : Machine) (a b : List Touches) → after_rows m (a ++ b) ≡ after_rows (after_rows m a) b
after-append m [] b = refl
after-append m (ts ∷ a) b = after-append (after_touches m ts) a b

-- what the rows behind the first touch
abbrev pub behind : Machine → List RowEffect → List (Touch Entry) → Result (List Touches) Fault
behind m rows ts = by_rows (after_touches m ts) rows >>= λ more. Ok (ts ∷ more)

abbrev pub with_first : List (Touch Entry) → List Touches → Result (List Touches) Fault
with_first ts more = Ok (ts ∷ more)

-- rows in two parts
pub record Parted (m : Machine) (rows more : List RowEffect) (touches : List Touches) : Type 0 where
  pub front : List Touches
  pub back : List Touches
  pub first : by_rows m rows ≡ Ok front
  pub second : by_rows (after_rows m front) more ≡ Ok back
  pub whole : touches ≡ front ++ back

pub parted : (m : Machine) (rows more : List RowEffect) (touches : List Touches) → by_rows m (rows ++ more) ≡ Ok touches → Parted m rows more touches
parted m [] more touches e = record { front = []; back = touches; first = refl; second = e; whole = refl }
parted m (row ∷ rows) more touches e =
    let one = bound (row m) (behind m (rows ++ more)) touches e in
    let rest = bound (by_rows (after_touches m one.value) (rows ++ more)) (with_first one.value) touches one.rest in
    let parts = parted (after_touches m one.value) rows more rest.value rest.is in
    record {
      front = one.value ∷ parts.front;
      back = parts.back;
      first = ap (λ r. r >>= behind m rows) one.is ∙ ap (λ r. r >>= with_first one.value) parts.first;
      second = parts.second;
      whole = sym (from_ok (one.value ∷ rest.value) touches rest.rest) ∙ ap (λ (l : List Touches). one.value ∷ l) parts.whole;
    }

-- a pruning behind rows, over the machine that they leave
pub record Pruned (m : Machine) (rows : List RowEffect) (pruning : RowEffect) (touches : List Touches) : Type 0 where
  pub front : List Touches
  pub first : by_rows m rows ≡ Ok front
  pub back : List (Touch Entry)
  pub second : pruning (after_rows m front) ≡ Ok back
  pub after : (q : Name) → get (after_rows m touches) q ≡ left_at q back (get (after_rows m front) q)

pub pruned_last : (m : Machine) (rows : List RowEffect) (pruning : RowEffect) (touches : List Touches) → by_rows m (rows ++ pruning ∷ []) ≡ Ok touches → Pruned m rows pruning touches
pruned_last m rows pruning touches e =
    let parts = parted m rows (pruning ∷ []) touches e in
    let one = bound (pruning (after_rows m parts.front)) (λ ts. Ok (ts ∷ [])) parts.back parts.second in
    record {
      front = parts.front;
      first = parts.first;
      back = one.value;
      second = one.is;
      after = λ q.
          ap (λ (rows : List Touches). get (after_rows m rows) q) parts.whole
          ∙ ap (λ n. get n q) (after-append m parts.front parts.back)
          ∙ get-after_rows (after_rows m parts.front) parts.back q
          ∙ ap (λ (rows : List Touches). left_by_rows q rows (get (after_rows m parts.front) q)) (sym (from_ok (one.value ∷ []) parts.back one.rest));
    }

-- ---- rows that act on one name by themselves

-- whatever earlier rows left, this is what the row makes of what stands at the name
abbrev pub Acts : Name → RowEffect → (Option Entry → Option Entry) → Type 0
Acts q row f = (m : Machine) (ts : List (Touch Entry)) → row m ≡ Ok ts → (old : Option Entry) → left_at q ts old ≡ f old

pub rows_act : {R : Type 0} → (q : Name) (row : R → RowEffect) (step : R → Option Entry → Option Entry) (rows : List R) (m : Machine) (touches : List Touches) (old : Option Entry)
    → ((r : R) → Acts q (row r) (step r)) → by_rows m (map row rows) ≡ Ok touches → left_by_rows q touches old ≡ in_turn step rows old
rows_act q row step [] m touches old each e = ap (λ (ts : List Touches). left_by_rows q ts old) (sym (from_ok [] touches e))
rows_act q row step (r ∷ rows) m touches old each e =
    let one = bound (row r m) (behind m (map row rows)) touches e in
    let rest = bound (by_rows (after_touches m one.value) (map row rows)) (with_first one.value) touches one.rest in
    ap (λ (ts : List Touches). left_by_rows q ts old) (sym (from_ok (one.value ∷ rest.value) touches rest.rest))
    ∙ rows_act q row step rows (after_touches m one.value) rest.value (left_at q one.value old) each rest.is
    ∙ ap (λ o. in_turn step rows o) (each r m one.value one.is old)

-- the machine after such rows, at a name
pub get-in_turn : {R : Type 0} → (q : Name) (row : R → RowEffect) (step : R → Option Entry → Option Entry) (rows : List R) (m : Machine) (touches : List Touches)
    → ((r : R) → Acts q (row r) (step r)) → by_rows m (map row rows) ≡ Ok touches → get (after_rows m touches) q ≡ in_turn step rows (get m q)
get-in_turn q row step rows m touches each e = get-after_rows m touches q ∙ rows_act q row step rows m touches (get m q) each e

-- rows that leave a name alone
pub alone : {R : Type 0} → (rows : List R) (old : Option Entry) → in_turn (λ r o. o) rows old ≡ old
alone [] old = refl
alone (r ∷ rows) old = alone rows old

-- ---- rows that take what stands there away, or leave it

abbrev pub unless_taken : Bool → Option Entry → Option Entry
unless_taken b old = cond b None old

pub twice : (a b : Bool) (old : Option Entry) → cond b None (cond a None old) ≡ cond (a || b) None old
twice true true old = refl
twice true false old = refl
twice false b old = refl

pub taken_by_any : {R : Type 0} → (test : R → Bool) (rows : List R) (old : Option Entry) → in_turn (λ r. unless_taken (test r)) rows old ≡ unless_taken (list_any test rows) old
taken_by_any test [] old = refl
taken_by_any test (r ∷ rows) old = taken_by_any test rows (unless_taken (test r) old) ∙ twice (test r) (list_any test rows) old

-- a guarded one stays
pub guarded_stays : (named guarded : Bool) (old : Option Entry) → cond named (cond guarded old None) old ≡ unless_taken (named && not guarded) old
guarded_stays true true old = refl
guarded_stays true false old = refl
guarded_stays false guarded old = refl

pub any_and : {R : Type 0} → (test : R → Bool) (b : Bool) (rows : List R) → list_any (λ r. test r && b) rows ≡ (list_any test rows && b)
any_and test b [] = refl
any_and test b (r ∷ rows) = ap (λ rest. (test r && b) || rest) (any_and test b rows) ∙ joined (test r) (list_any test rows) b
  where
    joined : (x y b : Bool) → ((x && b) || (y && b)) ≡ ((x || y) && b)
    joined true true true = refl
    joined true true false = refl
    joined true false true = refl
    joined true false false = refl
    joined false y b = refl

-- ---- touches at names of their own

-- touches at other names leave what stands here
pub elsewhere : {A : Type 0} → (q : Name) (name : A → Name) (change : A → Option Entry → Option Entry) (xs : List A) (old : Option Entry)
    → ((x : A) → same_name q (name x) ≡ false) → left_at q (map (λ x. Set (name x) (change x)) xs) old ≡ old
elsewhere q name change [] old apart = refl
elsewhere q name change (x ∷ xs) old apart =
    ap (λ b. left_at q (map (λ x. Set (name x) (change x)) xs) (cond b (change x old) old)) (apart x) ∙ elsewhere q name change xs old apart

-- what is made where nothing stands: the first that has the name
pub made : {A : Type 0} → (q : Name) (entry : A → Entry) (xs : List A) (old : Option Entry)
    → left_at q (map (λ x. Set (name_of (entry x)) (or_new (entry x))) xs) old ≡ option_or old (first_named q (map entry xs))
made q entry [] None = refl
made q entry [] (Some e) = refl
made q entry (x ∷ xs) old =
    made q entry xs (cond (same_name q (name_of (entry x))) (or_new (entry x) old) old)
    ∙ joined (same_name q (name_of (entry x))) old (first_named q (map entry xs))
  where
    joined : (b : Bool) (old rest : Option Entry) → option_or (cond b (or_new (entry x) old) old) rest ≡ option_or old (cond b (Some (entry x)) rest)
    joined true None rest = refl
    joined true (Some e) rest = refl
    joined false None rest = refl
    joined false (Some e) rest = refl

-- and by one row after the other
pub made_in_turn : {R : Type 0} → (q : Name) (entries : R → List Entry) (rows : List R) (old : Option Entry)
    → in_turn (λ r now. option_or now (first_named q (entries r))) rows old ≡ option_or old (first_named q (flat_map entries rows))
made_in_turn q entries [] None = refl
made_in_turn q entries [] (Some e) = refl
made_in_turn q entries (r ∷ rows) old =
    made_in_turn q entries rows (option_or old (first_named q (entries r)))
    ∙ associated old (first_named q (entries r)) (first_named q (flat_map entries rows))
    ∙ ap (option_or old) (sym (first_in (entries r) (flat_map entries rows)))
  where
    associated : (a b c : Option Entry) → option_or (option_or a b) c ≡ option_or a (option_or b c)
    associated None b c = refl
    associated (Some x) b c = refl

    first_in : (es fs : List Entry) → first_named q (es ++ fs) ≡ option_or (first_named q es) (first_named q fs)
    first_in [] fs = refl
    first_in (e ∷ es) fs = by_name (same_name q (name_of e)) (first_named q es) (first_named q (es ++ fs)) (first_in es fs)
      where
        by_name : (b : Bool) (rest all : Option Entry) → all ≡ option_or rest (first_named q fs) → cond b (Some e) all ≡ option_or (cond b (Some e) rest) (first_named q fs)
        by_name true rest all is = refl
        by_name false rest all is = is

-- ---- guards

-- what isn't guarded is changed
pub unless_guarded : (guarded : Name → Bool) (q n : Name) (change : Option Entry → Option Entry) (old : Option Entry)
    → left_at q (cond (guarded n) [] (Set n change ∷ [])) old ≡ cond (same_name q n) (cond (guarded q) old (change old)) old
unless_guarded guarded q n change old = elim (same_name q n) as (λ b. same_name q n ≡ b → left_at q (cond (guarded n) [] (Set n change ∷ [])) old ≡ cond b (cond (guarded q) old (change old)) old) [
  | true ↦ λ is. named (guarded n) is ∙ ap (λ (k : Name). cond (guarded k) old (change old)) (sym (from_same q n is))
  | false ↦ λ is. other (guarded n) is
] refl
  where
    named : (g : Bool) → same_name q n ≡ true → left_at q (cond g [] (Set n change ∷ [])) old ≡ cond g old (change old)
    named true is = refl
    named false is = ap (λ b. cond b (change old) old) is

    other : (g : Bool) → same_name q n ≡ false → left_at q (cond g [] (Set n change ∷ [])) old ≡ old
    other true is = refl
    other false is = ap (λ b. cond b (change old) old) is
