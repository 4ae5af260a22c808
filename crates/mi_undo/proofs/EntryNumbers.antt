-- The names of entries, read back.
use Rattle.std.proofs.Common.{◌≡◌, ◌≢◌, ⊎_elim, ℕ, zero, suc, ◌+◌, ◌*◌, ◌/◌, ◌%◌, ◌^◌, ◌<◌, ◌≤◌, true, false, ◌&&◌, ◌==◌, List, [], ◌∷◌, ◌++◌, length, get_or, take, drop, None, Some, Option, IfSome, IfNone, refl, sym, ap, ◌∙◌, arith, length-append}
use Rattle.std.proofs.Math.Nat.{pow-le-pow_right}
use Rattle.std.proofs.lemmas.Bool.{eqb-true, cases_lt}
use Rattle.std.proofs.lemmas.Cmp.{nat_cmp_total}
use Rattle.std.proofs.lemmas.List.{take_more, get_or_append_left, get_or_push}
use Rattle.std.specs.FinMap.{get, nat_cmp-IsAntisymmetric}
use Rattle.std.specs.Ordering.{nat_cmp, is_gt, ordering_then, ordering_reverse}
use Rattle.std.specs.declared.cmp.Ordering.{Ordering}
use Rattle.std.specs.declared.cmp.Ordering.TheVariants.{Less, Equal, Greater}
use Rattle.mi_text.specs.Maps.{name_cmp}
use Rattle.mi_text.specs.Next.{is_behind, next_name}
use Rattle.mi_text.proofs.MapLemmas.{from_same}
use Rattle.mi_text.proofs.NextLemmas.{next-first, next-none}
use Rattle.mi_volume.specs.Maps.{Map}
use Rattle.mi_volume.proofs.MapLemmas.{name_cases}
use Rattle.mi_undo.specs.Names.{digits, entry_name, gate_name, most_entries, is_entry_like}
use Rattle.mi_undo.specs.Reading.{IsUnread}
use Rattle.mi_undo.proofs.NameLemmas.{few_are}
use Rattle.mi_undo.proofs.NotesOf.{both_true}
use Rattle.mi_undo.proofs.SweepLemmas.{held_not}

pub digits_long : (n k : ℕ) → length (digits n k) ≡ n
unfolding digits
digits_long zero k = refl
digits_long (suc n) k = length-append (digits n (k / 10)) ((48 + k % 10) ∷ []) ∙ ap (λ (m : ℕ). m + 1) (digits_long n (k / 10)) ∙ (let one : n + 1 ≡ suc n = omega arith in one)

pub entry_long : (k : ℕ) → length (entry_name k) ≡ 12
entry_long k = omega (arith, digits_long 8 k)

pub gate_long : (k : ℕ) → length (gate_name k) ≡ 12
gate_long k = omega (arith, digits_long 8 k)

digits_step : (n k d : ℕ) → d < 10 → digits (suc n) (k * 10 + d) ≡ digits n k ++ (48 + d) ∷ []
unfolding digits
digits_step n k d small =
    let high : (k * 10 + d) / 10 ≡ k = omega arith in
    let low : (k * 10 + d) % 10 ≡ d = omega arith in
    (λ i. digits n (high i) ++ (48 + low i) ∷ [])

-- one digit more
pub digits_more : (ds : List ℕ) (i k d : ℕ) → take i ds ≡ digits i k → i < length ds → get_or ds i 0 ≡ 48 + d → d < 10 → take (i + 1) ds ≡ digits (i + 1) (k * 10 + d)
digits_more ds i k d is below value small =
    let one : suc i ≡ i + 1 = omega arith in
    take_more ds i 0 below ∙ (λ j. is j ++ value j ∷ []) ∙ sym (digits_step i k d small) ∙ ap (λ (n : ℕ). digits n (k * 10 + d)) one

pub power_more : (i k d : ℕ) → k < 10 ^ i → d < 10 → k * 10 + d < 10 ^ (i + 1)
power_more i k d small digit =
    let one : i + 1 ≡ suc i = omega arith in
    let next : 10 ^ suc i ≡ 10 * 10 ^ i = grind arith in
    let power : 10 ^ (i + 1) ≡ 10 * 10 ^ i = ap (λ (n : ℕ). 10 ^ n) one ∙ next in
    omega (arith, power)

pub small_power : (i k : ℕ) → k < 10 ^ i → i < 8 → k < 10000000
small_power i k small below =
    let some : 0 < 10 = omega arith in
    let le : i ≤ 7 = omega arith in
    let most : 10 ^ i ≤ 10 ^ 7 = pow-le-pow_right some {i = i} {j = 7} le in
    omega (arith, most)

-- each digit is one
either_digit : (n k i : ℕ) → i < suc n → (i < n → (48 ≤ get_or (digits n (k / 10)) i 0) × (get_or (digits n (k / 10)) i 0 ≤ 57)) → (48 ≤ get_or (digits n (k / 10) ++ (48 + k % 10) ∷ []) i 0) × (get_or (digits n (k / 10) ++ (48 + k % 10) ∷ []) i 0 ≤ 57)
either_digit n k i below rest = ⊎_elim (λ (less : i < n). front less) (λ (past : n ≤ i). last past) (cases_lt i n)
  where
    front : i < n → (48 ≤ get_or (digits n (k / 10) ++ (48 + k % 10) ∷ []) i 0) × (get_or (digits n (k / 10) ++ (48 + k % 10) ∷ []) i 0 ≤ 57)
    front less =
        let parts = rest less in
        let same_digit = get_or_append_left (digits n (k / 10)) ((48 + k % 10) ∷ []) 0 i (let long = digits_long n (k / 10) in omega (arith, long, less)) in
        (omega (arith, same_digit, parts.0), omega (arith, same_digit, parts.1))

    last : n ≤ i → (48 ≤ get_or (digits n (k / 10) ++ (48 + k % 10) ∷ []) i 0) × (get_or (digits n (k / 10) ++ (48 + k % 10) ∷ []) i 0 ≤ 57)
    last past =
        let at_end = get_or_push (digits n (k / 10)) (48 + k % 10) 0 i (let long = digits_long n (k / 10) in omega (arith, long, past, below)) in
        (omega (arith, at_end), omega (arith, at_end))

pub is_digit : (n k i : ℕ) → i < n → (48 ≤ get_or (digits n k) i 0) × (get_or (digits n k) i 0 ≤ 57)
unfolding digits
is_digit zero k i below = absurd (omega arith)
is_digit (suc n) k i below = either_digit n k i below (λ less. is_digit n (k / 10) i less)

-- eight digits are eight bytes, each of them a digit
pub not_eight : (ds : List ℕ) (k : ℕ) → (length ds ≡ 8 → ⊥) → ds ≢ digits 8 k
not_eight ds k long is = long (ap (λ (l : List ℕ). length l) is ∙ digits_long 8 k)

pub no_digit : (ds : List ℕ) (i k : ℕ) → length ds ≡ 8 → i < length ds → ((48 ≤ get_or ds i 0) × (get_or ds i 0 ≤ 57) → ⊥) → ds ≢ digits 8 k
no_digit ds i k long below never is =
    let digit = is_digit 8 k i (omega (arith, long, below)) in
    let same_digit : get_or ds i 0 ≡ get_or (digits 8 k) i 0 = ap (λ (l : List ℕ). get_or l i 0) is in
    never (omega (arith, same_digit, digit.0), omega (arith, same_digit, digit.1))

-- a name that begins with j/e/
pub front_is : (q : List ℕ) → is_entry_like q ≡ true → q ≡ 106 ∷ 47 ∷ 101 ∷ 47 ∷ drop 4 q
front_is [] like = absurd (cc)
front_is (a ∷ []) like = absurd (cc)
front_is (a ∷ b ∷ []) like = absurd (cc)
front_is (a ∷ b ∷ c ∷ []) like = absurd (cc)
front_is (a ∷ b ∷ c ∷ d ∷ r) like =
    let three = both_true ((a == 106) && (b == 47) && (c == 101)) (d == 47) like in
    let two = both_true ((a == 106) && (b == 47)) (c == 101) three.0 in
    let one = both_true (a == 106) (b == 47) two.0 in
    let first = eqb-true a 106 one.0 in
    let second = eqb-true b 47 one.1 in
    let third = eqb-true c 101 two.1 in
    let fourth = eqb-true d 47 three.1 in
    (λ i. first i ∷ second i ∷ third i ∷ fourth i ∷ r)

pub entry_is : (q : List ℕ) (k : ℕ) → is_entry_like q ≡ true → drop 4 q ≡ digits 8 k → q ≡ entry_name k
entry_is q k like is = front_is q like ∙ ap (λ (l : List ℕ). 106 ∷ 47 ∷ 101 ∷ 47 ∷ l) is

pub entry_digits : (q : List ℕ) (k : ℕ) → q ≡ entry_name k → drop 4 q ≡ digits 8 k
entry_digits q k is = ap (λ (l : List ℕ). drop 4 l) is

pub like_long : (q : List ℕ) → is_entry_like q ≡ true → 4 ≤ length q
like_long q like = let long : length q ≡ length (106 ∷ 47 ∷ 101 ∷ 47 ∷ drop 4 q) = ap (λ (l : List ℕ). length l) (front_is q like) in omega (arith, long)

-- names with one front stand together in the order of names
halves : (o p r : Ordering) → is_gt (ordering_then o p) ≡ true → is_gt (ordering_then (ordering_reverse o) r) ≡ true → (o ≡ Equal) × ((is_gt p ≡ true) × (is_gt r ≡ true))
halves Less p r above below = absurd (cc)
halves Greater p r above below = absurd (cc)
halves Equal p r above below = (refl, (above, below))

pub fronts : (p a q k : List ℕ) → is_gt (name_cmp k (p ++ a)) ≡ true → is_gt (name_cmp (p ++ q) k) ≡ true → (r : List ℕ) × (k ≡ p ++ r)
fronts [] a q k above below = (k, refl)
fronts (x ∷ p) a q [] above below = let clash : false ≡ true = above in absurd (cc)
fronts (x ∷ p) a q (y ∷ k) above below =
    let both = halves (nat_cmp y x) (name_cmp k (p ++ a)) (name_cmp (p ++ q) k) above (ap (λ o. is_gt (ordering_then o (name_cmp (p ++ q) k))) (sym (nat_cmp_total.antisymm x y)) ∙ below) in
    let rest = fronts p a q k both.1.0 both.1.1 in
    let first = nat_cmp-IsAntisymmetric y x both.0 in
    (rest.0, λ i. first i ∷ rest.1 i)

-- While the entries from this number on are removed: up to this name, none of them is held.
pub record AreGone (held : Map) (n : ℕ) (after : List ℕ) : Type 0 where
  pub gone : (q : List ℕ) → IsUnread n q → is_behind (Some after) q ≡ false → get held q ≡ None

none_before : (k : ℕ) → is_behind (Some (106 ∷ 47 ∷ 101 ∷ 47 ∷ [])) (entry_name k) ≡ false → ⊥
unfolding digits
none_before k before = let clash : true ≡ false = before in cc

pub gone_start : (held : Map) (n : ℕ) (after : List ℕ) → after ≡ 106 ∷ 47 ∷ 101 ∷ 47 ∷ [] → AreGone held n after
gone_start held n after is = record {
  gone = λ q unread before. absurd (none_before unread.0 (ap (λ (x : List ℕ). is_behind (Some x) (entry_name unread.0)) (sym is) ∙ ap (λ (x : List ℕ). is_behind (Some after) x) (sym unread.1.1.1) ∙ before));
}

pub gone_same : (h d : Map) (n : ℕ) (after : List ℕ) → d ≡ h → AreGone h n after → AreGone d n after
gone_same h d n after is far = record { gone = λ q unread before. ap (λ (m : Map). get m q) is ∙ far.gone q unread before }

module _ (held : Map) (n : ℕ) (after : List ℕ) (far : AreGone held n after) where
  by_side : (q : List ℕ) → IsUnread n q → (is_behind (Some after) q ≡ true → (x : List ℕ) → get held q ≡ Some x → ⊥) → get held q ≡ None
  by_side q unread never =
      elim (is_behind (Some after) q) as (λ b. is_behind (Some after) q ≡ b → get held q ≡ None) [
        | true ↦ λ behind. held_not (get held q) (never behind)
        | false ↦ λ before. far.gone q unread before
      ] refl

  pub none_behind : next_name held (Some after) ≡ None → (q : List ℕ) → IsUnread n q → get held q ≡ None
  none_behind next q unread = by_side q unread (λ behind x at. let clash : true ≡ false = sym behind ∙ next-none held (Some after) q x next at in cc)

  module _ (k : List ℕ) (next : next_name held (Some after) ≡ Some k) where
    -- the next name is behind all entries
    pub past_entries : is_entry_like after ≡ true → is_entry_like k ≡ false → is_behind (Some after) k ≡ true → (q : List ℕ) → IsUnread n q → get held q ≡ None
    past_entries like out above q unread = by_side q unread (λ behind x at. ⊎_elim
        (λ same. let clash : true ≡ false = ap is_entry_like (sym unread.1.1.1 ∙ from_same q k same) ∙ out in cc)
        (λ greater.
        let between = fronts (106 ∷ 47 ∷ 101 ∷ 47 ∷ []) (drop 4 after) (digits 8 unread.0) k
        (ap (λ (y : List ℕ). is_gt (name_cmp k y)) (sym (front_is after like)) ∙ above) (ap (λ (y : List ℕ). is_gt (name_cmp y k)) (sym unread.1.1.1) ∙ greater) in
        let clash : true ≡ false = ap is_entry_like (sym between.1) ∙ out in cc)
        (next-first held (Some after) k q x next at behind))

    pub gone_more : (new : Map) → (IsUnread n k → get new k ≡ None) → ((q : List ℕ) → get held q ≡ None → get new q ≡ None) → AreGone new n k
    gone_more new gone still = record {
      gone = λ q unread before. ⊎_elim
          (λ (is : q ≡ k). ap (λ (x : List ℕ). get new x) is ∙ gone (unread.0, (unread.1.0, (unread.1.1.0, sym is ∙ unread.1.1.1))))
          (λ other. still q (by_side q unread (λ behind x at. ⊎_elim
          (λ same. other (from_same q k same))
          (λ greater. let clash : true ≡ false = sym greater ∙ before in cc)
          (next-first held (Some after) k q x next at behind))))
          (name_cases q k);
    }

-- the number that is read of a name behind its front
pub entry_some : (r : Option ℕ) (name part : List ℕ) → part ≡ drop 4 name → is_entry_like name ≡ true → IfSome r (λ k. (k < 100000000) × (part ≡ digits 8 k)) → IfSome r (λ k. (k < most_entries) × (name ≡ entry_name k))
entry_some None name part is like some = tt
entry_some (Some k) name part is like some = (few_are k some.0, entry_is name k like (sym is ∙ some.1))

pub entry_none : (r : Option ℕ) (name part : List ℕ) → part ≡ drop 4 name → IfNone r ((k : ℕ) → part ≢ digits 8 k) → IfNone r ((k : ℕ) → name ≢ entry_name k)
entry_none None name part is none = λ k e. none k (is ∙ entry_digits name k e)
entry_none (Some k) name part is none = tt
