-- Records and names that were looked at so far.
use Rattle.std.proofs.Common.{◌≡◌, ℕ, zero, suc, ◌+◌, ◌<◌, ◌≤◌, ⊎_elim, true, false, List, [], ◌∷◌, ◌++◌, length, take, get_or, refl, sym, ap, subst, ◌∙◌, arith}
use Rattle.std.proofs.lemmas.Bool.{cases_lt}
use Rattle.std.proofs.lemmas.List.{take_more, take_all}
use Rattle.mi_text.specs.Maps.{Name}
use Rattle.mi_base.specs.declared.entry.Entry.TheVariants as entry
use Rattle.mi_base.specs.declared.entry.FileEntry.{FileEntry}
use Rattle.mi_base.specs.declared.entry.FileHead.{FileHead}
use Rattle.mi_base.specs.Limits.{fits}
use Rattle.mi_base.specs.Records.{with_bytes}
use Rattle.mi_base.specs.Spelling.{name_of}
use Rattle.mi_image.specs.Items.{HeadMayStand}
use Rattle.mi_script.specs.declared.rec.Rec.{Rec}
use Rattle.mi_undo.specs.Names.{is_inside}
use Rattle.mi_undo.specs.Area.{AreOutside}
use Rattle.mi_runner.specs.Records.{MayCarry}
use Rattle.mi_area_cases.proofs.NotedLemmas.{outside_push}

item_same : (rs : List Rec) (k : ℕ) (d e : Rec) → k < length rs → get_or rs k d ≡ get_or rs k e
item_same [] k d e below = absurd (omega arith)
item_same (r ∷ rs) zero d e below = refl
item_same (r ∷ rs) (suc k) d e below = item_same rs k d e (omega arith)

-- a record more
pub one_more : (rs : List Rec) (i : ℕ) (r : Rec) → i < length rs → r ≡ get_or rs i r → ((k : ℕ) (d : Rec) → k < i → MayCarry (get_or rs k d)) → MayCarry r → (k : ℕ) (d : Rec) → k < i + 1 → MayCarry (get_or rs k d)
one_more rs i r below is so_far may k d here = ⊎_elim
    (λ (lt : k < i). so_far k d lt)
    (λ (le : i ≤ k).
    let same : i ≡ k = omega (arith, here, le) in
    subst MayCarry (is ∙ item_same rs i r d below ∙ ap (λ (j : ℕ). get_or rs j d) same) may)
    (cases_lt k i)

-- a name more
pub one_outside : (names : List Name) (i : ℕ) (n : Name) → i < length names → n ≡ get_or names i n → AreOutside (take i names) → is_inside n ≡ false → AreOutside (take (i + 1) names)
one_outside names i n below is so_far out = subst AreOutside (sym (take_more names i n below ∙ ap (λ (x : Name). take i names ++ x ∷ []) (sym is))) (outside_push (take i names) n so_far out)

pub all_outside : (names : List Name) (i : ℕ) → length names ≤ i → AreOutside (take i names) → AreOutside names
all_outside names i le so_far = subst AreOutside (take_all i names le) so_far

-- a head whose file has this name and a record
pub head_stands : (name : Name) (h : FileHead) (f : FileEntry) → f ≡ with_bytes h [] → (name_of (entry.File f) ≡ name) × (fits (entry.File f) ≡ true) → HeadMayStand name h
head_stands name h f is both = record {
  named = sym (ap (λ (x : FileEntry). name_of (entry.File x)) is) ∙ both.0;
  right = sym (ap (λ (x : FileEntry). fits (entry.File x)) is) ∙ both.1;
}
