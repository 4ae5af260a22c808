-- What a tree of files prints can be read back.
use Rattle.std.proofs.Common.{◌≡◌, ℕ, zero, suc, ◌+◌, ◌<◌, Bool, true, false, cond, eqb, ◌||◌, List, [], ◌∷◌, ◌++◌, length, drop, refl, sym, ap, ◌∙◌, arith, append_assoc, eqb-true, eq-eqb, zero-add, add-zero}
use Rattle.std.specs.List.{list_any, AllByRecursion, fold}
use Rattle.md5.specs.Md5.{md5}
use Rattle.mi_text.specs.Path.{up_to_last, last_part, is_backslash}
use Rattle.mi_text.proofs.PathLemmas.{split_at_last}
use Rattle.mi_base.specs.declared.entry.FileEntry.{FileEntry}
use Rattle.mi_base.specs.Spelling.{head_of}
use Rattle.mi_print.specs.Texts.{escaped_byte, is_escaped_in_tree, two_digits}
use Rattle.mi_print.specs.Lines.{details}
use Rattle.mi_print.specs.Trees.{common, shared, depth, bars, branches, path_lines, tree}
use Rattle.mi_print.proofs.CodeLemmas.{heads, escaped_apart, escaped_never}
use Rattle.mi_print.proofs.LineLemmas.{tails, IsHead, details_apart, details_spread, details_parts, before}
use Rattle.mi_print.proofs.RegistryLemmas.{differ}
use Rattle.std.specs.Fmt.{decimal}

-- ---- a path as lines

not_60 : (stop : ℕ) → eqb 60 stop ≡ false → ¬ (◌≡◌ {A = ℕ} 60 stop)
not_60 stop other e = let z : true ≡ false = sym (eq-eqb 60 stop e) ∙ other in cc

-- a byte that is no backslash isn't printed as one
never_slash : (b : ℕ) (x y : List ℕ) → is_backslash b ≡ false → ¬ (escaped_byte is_escaped_in_tree b ++ x ≡ 92 ∷ y)
never_slash b x y other e = elim (is_escaped_in_tree b) as (λ s. cond s (60 ∷ two_digits b ++ 62 ∷ []) (b ∷ []) ++ x ≡ 92 ∷ y → ⊥) [
  | true ↦ λ same. differ 60 92 _ _ refl same
  | false ↦ λ same. let z : true ≡ false = sym (eq-eqb b 92 (heads b 92 x y same)) ∙ other in cc
] e

slash_step : (n b : ℕ) (p x : List ℕ) → is_backslash b ≡ true → branches n (b ∷ p) ++ x ≡ 92 ∷ 10 ∷ (bars (suc n) ++ (branches (suc n) p ++ x))
unfolding branches
slash_step n b p x is =
    ap (λ (t : Bool). cond t (92 ∷ 10 ∷ bars (suc n) ++ branches (suc n) p) (escaped_byte is_escaped_in_tree b ++ branches n p) ++ x) is
    ∙ ap (λ (l : List ℕ). 92 ∷ 10 ∷ l) (append_assoc (bars (suc n)) (branches (suc n) p) x)

other_step : (n b : ℕ) (p x : List ℕ) → is_backslash b ≡ false → branches n (b ∷ p) ++ x ≡ escaped_byte is_escaped_in_tree b ++ (branches n p ++ x)
unfolding branches
other_step n b p x is =
    ap (λ (t : Bool). cond t (92 ∷ 10 ∷ bars (suc n) ++ branches (suc n) p) (escaped_byte is_escaped_in_tree b ++ branches n p) ++ x) is
    ∙ append_assoc (escaped_byte is_escaped_in_tree b) (branches n p) x

no_step : (n : ℕ) (x : List ℕ) → branches n [] ++ x ≡ x
unfolding branches
no_step n x = refl

-- neither a bar nor an end of a line stands in front
branches_never : (stop : ℕ) → eqb 9 stop ≡ false → eqb 92 stop ≡ false → eqb 60 stop ≡ false → is_escaped_in_tree stop ≡ true → (n : ℕ) (p x y : List ℕ) → ¬ (branches n p ++ 9 ∷ x ≡ stop ∷ y)
branches_never stop one two three special n [] x y e = differ 9 stop _ _ one (sym (no_step n (9 ∷ x)) ∙ e)
branches_never stop one two three special n (b ∷ p) x y e = elim (is_backslash b) as (λ t. is_backslash b ≡ t → ⊥) [
  | true ↦ λ t. differ 92 stop _ _ two (sym (slash_step n b p (9 ∷ x) t) ∙ e)
  | false ↦ λ t. escaped_never is_escaped_in_tree refl stop special (not_60 stop three) b _ y tt (sym (other_step n b p (9 ∷ x) t) ∙ e)
] refl

bars_behind : (n : ℕ) (x y : List ℕ) → bars n ++ x ≡ bars n ++ y → x ≡ y
bars_behind zero x y e = e
bars_behind (suc n) x y e = bars_behind n x y (tails 32 32 _ _ (tails 124 124 _ _ e))

branches_apart : (n : ℕ) (p q x y : List ℕ) → branches n p ++ 9 ∷ x ≡ branches n q ++ 9 ∷ y → (p ≡ q) × (x ≡ y)
branches_apart n [] [] x y e = (refl, tails 9 9 x y (sym (no_step n (9 ∷ x)) ∙ e ∙ no_step n (9 ∷ y)))
branches_apart n [] (c ∷ q) x y e = elim (is_backslash c) as (λ t. is_backslash c ≡ t → ([] ≡ c ∷ q) × (x ≡ y)) [
  | true ↦ λ t. absurd (differ 9 92 _ _ refl (sym (no_step n (9 ∷ x)) ∙ e ∙ slash_step n c q (9 ∷ y) t))
  | false ↦ λ t. absurd (escaped_never is_escaped_in_tree refl 9 refl (not_60 9 refl) c _ x tt (sym (other_step n c q (9 ∷ y) t) ∙ sym e ∙ no_step n (9 ∷ x)))
] refl
branches_apart n (b ∷ p) [] x y e = elim (is_backslash b) as (λ t. is_backslash b ≡ t → (b ∷ p ≡ []) × (x ≡ y)) [
  | true ↦ λ t. absurd (differ 92 9 _ _ refl (sym (slash_step n b p (9 ∷ x) t) ∙ e ∙ no_step n (9 ∷ y)))
  | false ↦ λ t. absurd (escaped_never is_escaped_in_tree refl 9 refl (not_60 9 refl) b _ y tt (sym (other_step n b p (9 ∷ x) t) ∙ e ∙ no_step n (9 ∷ y)))
] refl
branches_apart n (b ∷ p) (c ∷ q) x y e = elim (is_backslash b) as (λ t. is_backslash b ≡ t → (b ∷ p ≡ c ∷ q) × (x ≡ y)) [
  | true ↦ λ t. elim (is_backslash c) as (λ u. is_backslash c ≡ u → (b ∷ p ≡ c ∷ q) × (x ≡ y)) [
    | true ↦ λ u.
        let inner = bars_behind (suc n) _ _ (tails 10 10 _ _ (tails 92 92 _ _ (sym (slash_step n b p (9 ∷ x) t) ∙ e ∙ slash_step n c q (9 ∷ y) u))) in
        let rest = branches_apart (suc n) p q x y inner in
        let first : b ≡ c = eqb-true b 92 t ∙ sym (eqb-true c 92 u) in
        (λ i. first i ∷ rest.0 i, rest.1)
    | false ↦ λ u. absurd (never_slash c _ _ u (sym (other_step n c q (9 ∷ y) u) ∙ sym e ∙ slash_step n b p (9 ∷ x) t))
  ] refl
  | false ↦ λ t. elim (is_backslash c) as (λ u. is_backslash c ≡ u → (b ∷ p ≡ c ∷ q) × (x ≡ y)) [
    | true ↦ λ u. absurd (never_slash b _ _ t (sym (other_step n b p (9 ∷ x) t) ∙ e ∙ slash_step n c q (9 ∷ y) u))
    | false ↦ λ u.
        let first = escaped_apart is_escaped_in_tree refl b c _ _ tt tt (sym (other_step n b p (9 ∷ x) t) ∙ e ∙ other_step n c q (9 ∷ y) u) in
        let rest = branches_apart n p q x y first.1 in
        (λ i. first.0 i ∷ rest.0 i, rest.1)
  ] refl
] refl

-- ---- the folder that paths share

common_path : (xs ys : List ℕ) → (w : List ℕ) × (ys ≡ common xs ys ++ w)
common_path [] ys = (ys, refl)
common_path (x ∷ xs) [] = ([], refl)
common_path (x ∷ xs) (y ∷ ys) = elim (eqb x y) as (λ t. eqb x y ≡ t → (w : List ℕ) × (y ∷ ys ≡ cond t (x ∷ common xs ys) [] ++ w)) [
  | true ↦ λ t. let rest = common_path xs ys in (rest.0, λ i. sym (eqb-true x y t) i ∷ rest.1 i)
  | false ↦ λ t. (y ∷ ys, refl)
] refl

common_former : (xs ys : List ℕ) → (w : List ℕ) × (xs ≡ common xs ys ++ w)
common_former [] ys = ([], refl)
common_former (x ∷ xs) [] = (x ∷ xs, refl)
common_former (x ∷ xs) (y ∷ ys) = elim (eqb x y) as (λ t. (w : List ℕ) × (x ∷ xs ≡ cond t (x ∷ common xs ys) [] ++ w)) [
  | true ↦ let rest = common_former xs ys in (rest.0, ap (λ (l : List ℕ). x ∷ l) rest.1)
  | false ↦ (x ∷ xs, refl)
]

any_last : (c : List ℕ) → list_any is_backslash (up_to_last c) ≡ list_any is_backslash c
any_last [] = refl
any_last (b ∷ c) = elim (list_any is_backslash (b ∷ c)) as (λ t. list_any is_backslash (b ∷ c) ≡ t → list_any is_backslash (cond t (b ∷ up_to_last c) []) ≡ t) [
  | true ↦ λ t. ap (λ (u : Bool). is_backslash b || u) (any_last c) ∙ t
  | false ↦ λ t. refl
] refl

abbrev Ends : List ℕ → Type 0
Ends u = up_to_last u ≡ u

last_ends : (c : List ℕ) → Ends (up_to_last c)
last_ends [] = refl
last_ends (b ∷ c) = elim (list_any is_backslash (b ∷ c)) as (λ t. list_any is_backslash (b ∷ c) ≡ t → up_to_last (cond t (b ∷ up_to_last c) []) ≡ cond t (b ∷ up_to_last c) []) [
  | true ↦ λ t.
      ap (λ (u : Bool). cond u (b ∷ up_to_last (up_to_last c)) []) (ap (λ (u : Bool). is_backslash b || u) (any_last c) ∙ t)
      ∙ ap (λ (l : List ℕ). b ∷ l) (last_ends c)
  | false ↦ λ t. refl
] refl

ends_tail : (b : ℕ) (u : List ℕ) → Ends (b ∷ u) → Ends u
ends_tail b u e = elim (list_any is_backslash (b ∷ u)) as (λ t. cond t (b ∷ up_to_last u) [] ≡ b ∷ u → up_to_last u ≡ u) [
  | true ↦ λ same. tails b b _ _ same
  | false ↦ λ same. absurd cc
] e

ends_any : (b : ℕ) (u : List ℕ) → Ends (b ∷ u) → list_any is_backslash (b ∷ u) ≡ true
ends_any b u e = elim (list_any is_backslash (b ∷ u)) as (λ t. cond t (b ∷ up_to_last u) [] ≡ b ∷ u → t ≡ true) [
  | true ↦ λ same. refl
  | false ↦ λ same. absurd cc
] e

step_of : ℕ → ℕ
step_of b = cond (is_backslash b) 1 0

from_sum : (k : ℕ) (u : List ℕ) → fold (λ a x. a + cond (is_backslash x) 1 0) k u ≡ k + depth u
from_sum k [] = sym (add-zero k)
from_sum k (b ∷ u) =
    let f : ℕ = cond (is_backslash b) 1 0 in
    let one = from_sum (k + f) u in
    let two = from_sum (0 + f) u in
    omega (arith, one, two)

depth_step : (b : ℕ) (u : List ℕ) → depth (b ∷ u) ≡ step_of b + depth u
unfolding step_of
depth_step b u = from_sum (0 + step_of b) u ∙ ap (λ (k : ℕ). k + depth u) (zero-add (step_of b))

any_depth : (u : List ℕ) → list_any is_backslash u ≡ true → 0 < depth u
unfolding step_of
any_depth [] e = absurd cc
any_depth (b ∷ u) e = elim (is_backslash b) as (λ t. is_backslash b ≡ t → (t || list_any is_backslash u) ≡ true → 0 < depth (b ∷ u)) [
  | true ↦ λ t some. let k : depth (b ∷ u) ≡ 1 + depth u = depth_step b u ∙ ap (λ (v : Bool). cond v 1 0 + depth u) t in omega (arith, k)
  | false ↦ λ t some. let k : depth (b ∷ u) ≡ 0 + depth u = depth_step b u ∙ ap (λ (v : Bool). cond v 1 0 + depth u) t in let more = any_depth u some in omega (arith, k, more)
] refl e

fronts_same : (u v w z : List ℕ) → Ends u → Ends v → depth u ≡ depth v → u ++ w ≡ v ++ z → u ≡ v
fronts_same [] [] w z eu ev same e = refl
fronts_same [] (c ∷ v) w z eu ev same e = absurd (let some = any_depth (c ∷ v) (ends_any c v ev) in let none : depth (c ∷ v) ≡ 0 = sym same in let f : ⊥ = omega (arith, some, none) in f)
fronts_same (b ∷ u) [] w z eu ev same e = absurd (let some = any_depth (b ∷ u) (ends_any b u eu) in let none : depth (b ∷ u) ≡ 0 = same in let f : ⊥ = omega (arith, some, none) in f)
fronts_same (b ∷ u) (c ∷ v) w z eu ev same e =
    let first : b ≡ c = heads b c _ _ e in
    let steps : step_of b ≡ step_of c = ap step_of first in
    let rest : depth u ≡ depth v = omega (arith, same, depth_step b u, depth_step c v, steps) in
    λ i. first i ∷ fronts_same u v w z (ends_tail b u eu) (ends_tail c v ev) rest (tails b c _ _ e) i

drop_front : (u w : List ℕ) → drop (length u) (u ++ w) ≡ w
drop_front [] w = refl
drop_front (b ∷ u) w = drop_front u w

shared_path : (former path : List ℕ) → path ≡ shared former path ++ drop (length (shared former path)) path
unfolding shared
shared_path former path =
    let c = common former path in
    let rest = common_path former path in
    let whole : path ≡ up_to_last c ++ (last_part c ++ rest.0) = rest.1 ∙ ap (λ (l : List ℕ). l ++ rest.0) (split_at_last c) ∙ append_assoc (up_to_last c) (last_part c) rest.0 in
    let cut : drop (length (up_to_last c)) path ≡ last_part c ++ rest.0 = ap (λ (l : List ℕ). drop (length (up_to_last c)) l) whole ∙ drop_front (up_to_last c) (last_part c ++ rest.0) in
    whole ∙ ap (λ (l : List ℕ). up_to_last c ++ l) (sym cut)

shared_former : (former path : List ℕ) → (w : List ℕ) × (former ≡ shared former path ++ w)
unfolding shared
shared_former former path =
    let c = common former path in
    let rest = common_former former path in
    (last_part c ++ rest.0, rest.1 ∙ ap (λ (l : List ℕ). l ++ rest.0) (split_at_last c) ∙ append_assoc (up_to_last c) (last_part c) rest.0)

shared_ends : (former path : List ℕ) → Ends (shared former path)
unfolding shared
shared_ends former path = last_ends (common former path)

-- ---- the lines of a path

bars_apart : (k l : ℕ) (x y : List ℕ) → ((z : List ℕ) → ¬ (x ≡ 124 ∷ z)) → ((z : List ℕ) → ¬ (y ≡ 124 ∷ z)) → bars k ++ x ≡ bars l ++ y → (k ≡ l) × (x ≡ y)
bars_apart zero zero x y nx ny e = (refl, e)
bars_apart zero (suc l) x y nx ny e = absurd (nx _ e)
bars_apart (suc k) zero x y nx ny e = absurd (ny _ (sym e))
bars_apart (suc k) (suc l) x y nx ny e = let rest = bars_apart k l x y nx ny (tails 32 32 _ _ (tails 124 124 _ _ e)) in (ap suc rest.0, rest.1)

path_spread : (former path x : List ℕ) → path_lines former path ++ x ≡ bars (depth (shared former path)) ++ (branches (depth (shared former path)) (drop (length (shared former path)) path) ++ x)
unfolding path_lines
path_spread former path x = append_assoc (bars (depth (shared former path))) (branches (depth (shared former path)) (drop (length (shared former path)) path)) x

pub path_apart : (former p q x y : List ℕ) → path_lines former p ++ 9 ∷ x ≡ path_lines former q ++ 9 ∷ y → (p ≡ q) × (x ≡ y)
path_apart former p q x y e =
    let u = shared former p in
    let v = shared former q in
    let levels = bars_apart (depth u) (depth v) _ _ (λ z is. branches_never 124 refl refl refl refl (depth u) (drop (length u) p) x z is) (λ z is. branches_never 124 refl refl refl refl (depth v) (drop (length v) q) y z is)
    (sym (path_spread former p (9 ∷ x)) ∙ e ∙ path_spread former q (9 ∷ y)) in
    let rests = branches_apart (depth v) (drop (length u) p) (drop (length v) q) x y (ap (λ (n : ℕ). branches n (drop (length u) p) ++ 9 ∷ x) (sym levels.0) ∙ levels.1) in
    let ends_p = shared_former former p in
    let ends_q = shared_former former q in
    let fronts : u ≡ v = fronts_same u v ends_p.0 ends_q.0 (shared_ends former p) (shared_ends former q) levels.0 (sym ends_p.1 ∙ ends_q.1) in
    (shared_path former p ∙ (λ i. fronts i ++ rests.0 i) ∙ sym (shared_path former q), rests.1)

path_never : (former p x y : List ℕ) → ¬ (path_lines former p ++ 9 ∷ x ≡ 10 ∷ y)
path_never former p x y e = by_depth (depth (shared former p)) (sym (path_spread former p (9 ∷ x)) ∙ e)
  where
    by_depth : (n : ℕ) → ¬ (bars n ++ (branches (depth (shared former p)) (drop (length (shared former p)) p) ++ 9 ∷ x) ≡ 10 ∷ y)
    by_depth zero is = branches_never 10 refl refl refl refl (depth (shared former p)) (drop (length (shared former p)) p) x y is
    by_depth (suc n) is = differ 124 10 _ _ refl is

-- ---- files

-- what stands behind a path, behind its tab
abbrev behind_tab : FileEntry → List ℕ → List ℕ
behind_tab f x = decimal (length f.bytes) ++ before (details_parts (head_of f) (md5 f.bytes)) x

tree_spread : (former : List ℕ) (f : FileEntry) (fs : List FileEntry) (x : List ℕ) → tree former (f ∷ fs) ++ x ≡ path_lines former f.shown ++ 9 ∷ behind_tab f (tree f.shown fs ++ x)
unfolding tree
tree_spread former f fs x =
    append_assoc (path_lines former f.shown ++ details f) (tree f.shown fs) x
    ∙ append_assoc (path_lines former f.shown) (details f) (tree f.shown fs ++ x)
    ∙ ap (λ (l : List ℕ). path_lines former f.shown ++ l) (details_spread (head_of f) (md5 f.bytes) (tree f.shown fs ++ x))

tree_end : (former x : List ℕ) → tree former [] ++ x ≡ x
unfolding tree
tree_end former x = refl

module _ (P Q : FileEntry → Type 0) (head_p : (f : FileEntry) → P f → IsHead (head_of f)) (head_q : (f : FileEntry) → Q f → IsHead (head_of f))
    (told : (f g : FileEntry) → P f → Q g → f.shown ≡ g.shown → length f.bytes ≡ length g.bytes → md5 f.bytes ≡ md5 g.bytes → f.bytes ≡ g.bytes) where
  pub tree_apart : (former : List ℕ) (fs gs : List FileEntry) (x y : List ℕ) → AllByRecursion P fs → AllByRecursion Q gs → tree former fs ++ 10 ∷ x ≡ tree former gs ++ 10 ∷ y → (fs ≡ gs) × (x ≡ y)
  tree_apart former [] [] x y pf qg e = (refl, tails 10 10 x y (sym (tree_end former (10 ∷ x)) ∙ e ∙ tree_end former (10 ∷ y)))
  tree_apart former [] (g ∷ gs) x y pf qg e = absurd (path_never former g.shown _ x (sym (tree_spread former g gs (10 ∷ y)) ∙ sym e ∙ tree_end former (10 ∷ x)))
  tree_apart former (f ∷ fs) [] x y pf qg e = absurd (path_never former f.shown _ y (sym (tree_spread former f fs (10 ∷ x)) ∙ e ∙ tree_end former (10 ∷ y)))
  tree_apart former (f ∷ fs) (g ∷ gs) x y pf qg e =
      let path = path_apart former f.shown g.shown _ _ (sym (tree_spread former f fs (10 ∷ x)) ∙ e ∙ tree_spread former g gs (10 ∷ y)) in
      let same = details_apart (head_of f) (head_of g) (md5 f.bytes) (md5 g.bytes) (tree f.shown fs ++ 10 ∷ x) (tree g.shown gs ++ 10 ∷ y) (head_p f pf.0) (head_q g qg.0)
      (details_spread (head_of f) (md5 f.bytes) (tree f.shown fs ++ 10 ∷ x) ∙ ap (λ (l : List ℕ). 9 ∷ l) path.1 ∙ sym (details_spread (head_of g) (md5 g.bytes) (tree g.shown gs ++ 10 ∷ y))) in
      let bytes = told f g pf.0 qg.0 path.0 same.length same.hash in
      let file : f ≡ g = λ i. record { shown = path.0 i; version = same.version i; languages = same.languages i; created = same.created i; modified = same.modified i; attributes = same.attributes i; bytes = bytes i } in
      let rest = tree_apart g.shown fs gs x y pf.1 qg.1 (ap (λ (s : List ℕ). tree s fs ++ 10 ∷ x) (sym path.0) ∙ same.rest) in
      (λ i. file i ∷ rest.0 i, rest.1)
