-- Words ask only for what may be asked for.
use Rattle.std.proofs.Common.{◌≡◌, ℕ, Bool, true, false, cond, List, [], ◌∷◌, ◌++◌, map, Option, Some, None, Result, Ok, Err, refl, subst, ◌∙◌}
use Rattle.std.specs.Prelude.{◌==◌, not, codes, filter, length, drop}
use Rattle.std.specs.Str.{bytes_eq}
use Rattle.std.proofs.lemmas.List.Folds.{list_all-append}
use Rattle.mi_text.specs.Fold.{folded}
use Rattle.mi_text.specs.Maps.{Name}
use Rattle.mi_text.specs.PropertyNames.{is_public_name}
use Rattle.mi_props.specs.Props.{Value, all_names}
use Rattle.mi_model.specs.Texts.{Text}
use Rattle.mi_model.specs.Assignments.{Assigned, Placed, name_in, is_assignment, assigned, kept_words, unless_other, assignments, with_words}
use Rattle.mi_model.specs.Words.{Command, Package, Selftest, Clients, Products, Recover, package_in, selftest_in, sized_test, test_size, alone, is_repair, repair_sets, command_in, command_of_kept, command_of}
use Rattle.mi_words.specs.Asked.{asked}
use Rattle.mi_words.specs.declared.command.Command as read
use Rattle.mi_words.specs.declared.command.Command.TheVariants as variant
use Rattle.mi_commands.specs.Asked.{MayAsk}
use Rattle.mi_commands.proofs.FirstLemmas.{first, both_true}

-- what holds of a command of any words
abbrev Granted : Result Command ℕ → Type 0
Granted (Ok (Package recorded folder sets)) = all_names is_public_name sets ≡ true
Granted (Ok (Selftest n sets)) = all_names is_public_name sets ≡ true
Granted other = Unit {0}

-- ---- properties

one_assigns : (w : Placed) (rest left : List Placed) (b : Bool) → is_assignment w.1 ≡ b → (left ≡ [] → all_names is_public_name (map (λ (v : Placed). assigned v.1) rest) ≡ true) → cond (not b) (w ∷ left) left ≡ [] → all_names is_public_name (map (λ (v : Placed). assigned v.1) (w ∷ rest)) ≡ true
one_assigns w rest left true is more none = both_true (is_public_name (name_in w.1)) (all_names is_public_name (map (λ (v : Placed). assigned v.1) rest)) (first (is_public_name (name_in w.1)) _ is) (more none)
one_assigns w rest left false is more none = absurd cc

all_assign : (rest : List Placed) → filter (λ (w : Placed). not (is_assignment w.1)) rest ≡ [] → all_names is_public_name (map (λ (w : Placed). assigned w.1) rest) ≡ true
all_assign [] none = refl
all_assign (w ∷ rest) none = one_assigns w rest (filter (λ (v : Placed). not (is_assignment v.1)) rest) (is_assignment w.1) refl (λ left. all_assign rest left) none

in_package : (recorded : Bool) (folder : Text) (sets : Assigned) → all_names is_public_name sets ≡ true → (rest others : List Placed) → filter (λ (w : Placed). not (is_assignment w.1)) rest ≡ others
    → Granted (with_words (unless_other others (map (λ (w : Placed). assigned w.1) rest)) (λ given. Package recorded folder (given ++ sets)))
in_package recorded folder sets public rest [] is =
    list_all-append (λ (p : Name × Value). is_public_name p.0) (map (λ (w : Placed). assigned w.1) rest) sets
    ∙ both_true (all_names is_public_name (map (λ (w : Placed). assigned w.1) rest)) (all_names is_public_name sets) (all_assign rest is) public
in_package recorded folder sets public rest (w ∷ others) is = tt

in_folder : (all : ℕ) (recorded : Bool) (sets : Assigned) → all_names is_public_name sets ≡ true → (rest : List Placed) → Granted (package_in all recorded sets rest)
in_folder all recorded sets public [] = tt
in_folder all recorded sets public (w ∷ rest) = by_length (length w.1 == 0)
  where
    by_length : (b : Bool) → Granted (cond b (Err w.0) (with_words (assignments rest) (λ given. Package recorded w.1 (given ++ sets))))
    by_length true = tt
    by_length false = in_package recorded w.1 sets public rest (filter (λ (v : Placed). not (is_assignment v.1)) rest) refl

repair_public : (letters : Text) → all_names is_public_name (repair_sets letters) ≡ true
repair_public [] = refl
repair_public (letter ∷ letters) = refl

-- ---- the package for tests

test_words : (n : ℕ) (rest others : List Placed) → filter (λ (w : Placed). not (is_assignment w.1)) rest ≡ others → Granted (with_words (unless_other others (map (λ (w : Placed). assigned w.1) rest)) (Selftest n))
test_words n rest [] is = all_assign rest is
test_words n rest (w ∷ others) is = tt

test_sized : (o : Option ℕ) (place : ℕ) (rest : List Placed) → Granted (sized_test o place rest)
test_sized None place rest = tt
test_sized (Some n) place rest = test_words n rest (filter (λ (v : Placed). not (is_assignment v.1)) rest) refl

in_test : (all : ℕ) (rest : List Placed) → Granted (selftest_in all rest)
in_test all [] = tt
in_test all (w ∷ rest) = test_sized (test_size w.1) w.0 rest

-- ---- any command

alone_granted : (command : Command) (rest : List Placed) → Granted (Ok command) → Granted (alone command rest)
alone_granted command [] is = is
alone_granted command (w ∷ rest) is = tt

one_of : (a b c d e f g : Bool) (s t u v x y z : Result Command ℕ) (place : ℕ) → Granted s → Granted t → Granted u → Granted v → Granted x → Granted y → Granted z
    → Granted (cond a s (cond b t (cond c u (cond d v (cond e x (cond f y (cond g z (Err place))))))))
one_of true b c d e f g s t u v x y z place is_s is_t is_u is_v is_x is_y is_z = is_s
one_of false true c d e f g s t u v x y z place is_s is_t is_u is_v is_x is_y is_z = is_t
one_of false false true d e f g s t u v x y z place is_s is_t is_u is_v is_x is_y is_z = is_u
one_of false false false true e f g s t u v x y z place is_s is_t is_u is_v is_x is_y is_z = is_v
one_of false false false false true f g s t u v x y z place is_s is_t is_u is_v is_x is_y is_z = is_x
one_of false false false false false true g s t u v x y z place is_s is_t is_u is_v is_x is_y is_z = is_y
one_of false false false false false false true s t u v x y z place is_s is_t is_u is_v is_x is_y is_z = is_z
one_of false false false false false false false s t u v x y z place is_s is_t is_u is_v is_x is_y is_z = tt

in_word : (all place : ℕ) (word : Text) (rest : List Placed) → Granted (command_in all place word rest)
in_word all place word rest =
    one_of (bytes_eq word (codes "/i")) (bytes_eq word (codes "/x")) (is_repair word) (bytes_eq word (codes "/selftest")) (bytes_eq word (codes "/clients")) (bytes_eq word (codes "/products")) (bytes_eq word (codes "/recover"))
    (package_in all false [] rest) (package_in all true ((codes "REMOVE", codes "ALL") ∷ []) rest) (package_in all true (repair_sets (drop 2 word)) rest) (selftest_in all rest) (alone Clients rest) (alone Products rest) (alone Recover rest) place
    (in_folder all false [] refl rest) (in_folder all true ((codes "REMOVE", codes "ALL") ∷ []) refl rest) (in_folder all true (repair_sets (drop 2 word)) (repair_public (drop 2 word)) rest) (in_test all rest) (alone_granted Clients rest tt) (alone_granted Products rest tt) (alone_granted Recover rest tt)

in_kept : (all : ℕ) (kept : List Placed) → Granted (command_of_kept all kept)
in_kept all [] = tt
in_kept all (w ∷ rest) = in_word all w.0 (folded w.1) rest

are_granted : (words : List Text) → Granted (command_of words)
unfolding command_of
are_granted words = in_kept (length words) (kept_words words)

pub asked_may : (words : List Text) (c : read.Command) → command_of words ≡ Ok (asked c) → MayAsk c
asked_may words (variant.Package p) is = subst Granted is (are_granted words)
asked_may words (variant.Selftest t) is = subst Granted is (are_granted words)
asked_may words variant.Clients is = tt
asked_may words variant.Products is = tt
asked_may words variant.Recover is = tt

-- with none behind them
pub public_with_none : (sets : Assigned) → all_names is_public_name sets ≡ true → all_names is_public_name (sets ++ []) ≡ true
public_with_none sets public = list_all-append (λ (p : Name × Value). is_public_name p.0) sets [] ∙ both_true (all_names is_public_name sets) true public refl
