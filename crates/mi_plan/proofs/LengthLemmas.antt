-- Records that copy nothing of the source, behind others.
use Rattle.std.proofs.Common.{◌≡◌, ◌≤◌, false, List, [], ◌++◌, length, drop, drop_at, refl, sym, ap, subst, ◌∙◌, arith}
use Rattle.std.specs.List.{All}
use Rattle.std.proofs.lemmas.List.{append-nil, length-append}
use Rattle.std.proofs.lemmas.List.Elements.{All-append, All-weaker}
use Rattle.mi_source.specs.Paths.{Files}
use Rattle.mi_script.specs.declared.rec.Rec.{Rec}
use Rattle.mi_script.specs.declared.rec.Rec.TheVariants.{Put, Drop, Copy, Dup}
use Rattle.mi_runner.specs.Records.{HasLength}
use Rattle.mi_steps.specs.Follows.{Grows}
use Rattle.mi_plan.specs.Lengths.{is_copy, HaveLength}

no_copy : (files : Files) (r : Rec) → is_copy r ≡ false → HasLength files r
no_copy files (Put name bytes) is = tt
no_copy files (Drop name) is = tt
no_copy files (Copy name head file path n) is = cc
no_copy files (Dup name head from) is = tt

-- nothing is added
pub grows_none : (recs : List Rec) → Grows recs recs
grows_none recs = ([], sym (append-nil recs))

pub grows_long : (had has : List Rec) → Grows had has → length had ≤ length has
grows_long had has grows = let e = ap length grows.1 ∙ length-append had grows.0 in omega (arith, e)

pub grown_lengths : (files : Files) (had has : List Rec) → Grows had has → All (λ r. is_copy r ≡ false) (drop (length had) has) → HaveLength files had → HaveLength files has
grown_lengths files had has grows none have =
    let more : drop (length had) has ≡ grows.0 = ap (drop (length had)) grows.1 ∙ drop_at had grows.0 (length had) refl in
    let there : HaveLength files grows.0 = All-weaker (λ (r : Rec). is_copy r ≡ false) (HasLength files) (no_copy files) grows.0 (subst (All (λ (r : Rec). is_copy r ≡ false)) more none) in
    subst (HaveLength files) (sym grows.1) (All-append (HasLength files) had grows.0 have there)

-- what was added has the lengths too
pub lengths_on : (files : Files) (had has : List Rec) → Grows had has → ((more : List Rec) → has ≡ had ++ more → All (HasLength files) more) → HaveLength files had → HaveLength files has
lengths_on files had has grows adds have = subst (All (HasLength files)) (sym grows.1) (All-append (HasLength files) had grows.0 have (adds grows.0 grows.1))
