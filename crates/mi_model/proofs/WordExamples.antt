-- Words and what they ask for, by computation.
use Rattle.std.proofs.Common.{◌≡◌, [], ◌∷◌, refl}
use Rattle.std.specs.Prelude.{codes, Ok, Err, true, false}
use Rattle.mi_model.specs.Words.{command_of, Package, Selftest}

none : command_of [] ≡ Err 0
unfolding command_of
none = refl

no_folder : command_of (codes "/i" ∷ []) ≡ Err 1
unfolding command_of
no_folder = refl

no_name : command_of (codes "/i" ∷ codes "pkg" ∷ codes "name=x" ∷ []) ≡ Err 2
unfolding command_of
no_name = refl

no_letter : command_of (codes "/fc" ∷ codes "pkg" ∷ []) ≡ Err 0
unfolding command_of
no_letter = refl

dropped_words_count : command_of (codes "/qn" ∷ codes "/i" ∷ []) ≡ Err 2
unfolding command_of
dropped_words_count = refl

install : command_of (codes "/qn" ∷ codes "/I" ∷ codes "pkg" ∷ codes "A=1" ∷ codes "B=" ∷ []) ≡ Ok (Package false (codes "pkg") ((codes "A", codes "1") ∷ (codes "B", []) ∷ []))
unfolding command_of
install = refl

removal : command_of (codes "/x" ∷ codes "pkg" ∷ []) ≡ Ok (Package true (codes "pkg") ((codes "REMOVE", codes "ALL") ∷ []))
unfolding command_of
removal = refl

repair : command_of (codes "/fVm" ∷ codes "pkg" ∷ []) ≡ Ok (Package true (codes "pkg") ((codes "REINSTALL", codes "ALL") ∷ (codes "REINSTALLMODE", codes "vm") ∷ []))
unfolding command_of
repair = refl

no_files : command_of (codes "/selftest" ∷ codes "0" ∷ []) ≡ Err 1
unfolding command_of
no_files = refl

a_zero_in_front : command_of (codes "/selftest" ∷ codes "007" ∷ []) ≡ Err 1
unfolding command_of
a_zero_in_front = refl

files : command_of (codes "/selftest" ∷ codes "500" ∷ codes "REMOVE=ALL" ∷ []) ≡ Ok (Selftest 500 ((codes "REMOVE", codes "ALL") ∷ []))
unfolding command_of
files = refl

behind_a_listing : command_of (codes "/products" ∷ codes "x" ∷ []) ≡ Err 1
unfolding command_of
behind_a_listing = refl

behind_a_size : command_of (codes "/selftest" ∷ codes "5" ∷ codes "x" ∷ []) ≡ Err 2
unfolding command_of
behind_a_size = refl
