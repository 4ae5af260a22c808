-- What goes of a tree, by the places that keep holders.
use Rattle.std.proofs.Common.{◌≡◌, ℕ, ◌==◌, length, arith, Bool, true, false, cond, ◌||◌, ◌&&◌, List, [], ◌∷◌, filter, Some, None, refl, sym, ap, subst, ◌∙◌}
use Rattle.std.specs.Prelude.{nat_eq, not}
use Rattle.std.specs.List.{starts_with, list_all, filter_map, cons_option}
use Rattle.std.specs.FinMap.{keys}
use Rattle.std.proofs.lemmas.Bool.{eqb-true}
use Rattle.mi_text.specs.Maps.{Name}
use Rattle.mi_base.specs.Machine.{Machine}
use Rattle.mi_source.specs.Paths.{Files}
use Rattle.mi_changes.specs.Touches.{Clear}
use Rattle.mi_script.specs.declared.rec.Rec.{Rec}
use Rattle.mi_model.specs.Prune.{Path, Seat, Holder, Leaf, Apart, is_on_way, lets_go, seat_goes, goes}
use Rattle.mi_steps.specs.Follows.{Follows}
use Rattle.mi_steps.specs.Trees.{keeps, passes}
use Rattle.mi_steps.proofs.FollowLemmas.{cleared, started}

not_or : (a b : Bool) → not (a || b) ≡ (not a && not b)
not_or true b = refl
not_or false b = refl

-- no place keeps a holder where all that is held lets it go
pub all_let_go : (seat : Name → Seat) (touched : List Path) (path : Path) (held : List Name) → list_all (λ other. lets_go touched path (seat other)) held ≡ not (is_on_way (filter_map (λ other. keeps touched (seat other)) held) path)
all_let_go seat touched path [] = refl
all_let_go seat touched path (name ∷ held) =
    ap (λ b. lets_go touched path (seat name) && b) (all_let_go seat touched path held) ∙ one (seat name) (filter_map (λ other. keeps touched (seat other)) held)
  where
    holder_lets : (begins on_way : Bool) (p : Path) (places : List Path) → starts_with nat_eq p path ≡ begins →
        ((not begins || on_way) && not (is_on_way places path)) ≡ not (is_on_way (cons_option (cond on_way None (Some p)) places) path)
    holder_lets true true p places is = refl
    holder_lets false true p places is = refl
    holder_lets true false p places is = sym (ap (λ b. not (b || is_on_way places path)) is)
    holder_lets false false p places is = sym (ap (λ b. not (b || is_on_way places path)) is)

    one : (s : Seat) (places : List Path) → (lets_go touched path s && not (is_on_way places path)) ≡ not (is_on_way (cons_option (keeps touched s) places) path)
    one (Holder p) places = holder_lets (starts_with nat_eq p path) (is_on_way touched p) p places refl
    one (Leaf p) places = sym (not_or (starts_with nat_eq p path) (is_on_way places path))
    one Apart places = refl

-- what goes is found by three searches
pub passes_goes : (seat : Name → Seat) (held : List Name) (touched protected kept : List Path) → ((holder : Path) → is_on_way kept holder ≡ is_on_way (filter_map (λ other. keeps touched (seat other)) held) holder)
    → (name : Name) → passes touched protected kept (seat name) ≡ goes seat held touched protected name
unfolding goes
passes_goes seat held touched protected kept same name = by_seat (seat name)
  where
    by_seat : (s : Seat) → passes touched protected kept s ≡ seat_goes seat held touched protected s
    by_seat (Holder path) =
        ap (λ b. is_on_way touched path && not (is_on_way protected path) && not b) (same path)
        ∙ ap (λ b. is_on_way touched path && not (is_on_way protected path) && b) (sym (all_let_go seat touched path held))
    by_seat (Leaf path) = refl
    by_seat Apart = refl

-- ---- places in another order

lets_alike : (touched same : List Path) (path : Path) (s : Seat) → ((holder : Path) → is_on_way same holder ≡ is_on_way touched holder) → lets_go same path s ≡ lets_go touched path s
lets_alike touched same path (Holder p) alike = ap (λ b. not (starts_with nat_eq p path) || b) (alike p)
lets_alike touched same path (Leaf p) alike = refl
lets_alike touched same path Apart alike = refl

all_alike : (seat : Name → Seat) (held : List Name) (touched same : List Path) (path : Path) → ((holder : Path) → is_on_way same holder ≡ is_on_way touched holder)
    → list_all (λ other. lets_go same path (seat other)) held ≡ list_all (λ other. lets_go touched path (seat other)) held
all_alike seat [] touched same path alike = refl
all_alike seat (name ∷ held) touched same path alike =
    ap (λ b. b && list_all (λ other. lets_go same path (seat other)) held) (lets_alike touched same path (seat name) alike)
    ∙ ap (λ b. lets_go touched path (seat name) && b) (all_alike seat held touched same path alike)

pub goes_alike : (seat : Name → Seat) (held : List Name) (touched protected more less : List Path) (name : Name)
    → ((holder : Path) → is_on_way more holder ≡ is_on_way touched holder) → ((holder : Path) → is_on_way less holder ≡ is_on_way protected holder) → goes seat held more less name ≡ goes seat held touched protected name
unfolding goes
goes_alike seat held touched protected more less name a b = by_seat (seat name)
  where
    by_seat : (s : Seat) → seat_goes seat held more less s ≡ seat_goes seat held touched protected s
    by_seat (Holder path) =
        ap (λ x. x && not (is_on_way less path) && list_all (λ other. lets_go more path (seat other)) held) (a path)
        ∙ ap (λ x. is_on_way touched path && not x && list_all (λ other. lets_go more path (seat other)) held) (b path)
        ∙ ap (λ x. is_on_way touched path && not (is_on_way protected path) && x) (all_alike seat held touched more path a)
    by_seat (Leaf path) = refl
    by_seat Apart = refl

pub filter_alike : (p q : Name → Bool) (names : List Name) → ((name : Name) → p name ≡ q name) → filter p names ≡ filter q names
filter_alike p q [] same = refl
filter_alike p q (n ∷ names) same = ap (λ b. cond b (n ∷ filter p names) (filter p names)) (same n) ∙ ap (λ (rest : List Name). cond (q n) (n ∷ rest) rest) (filter_alike p q names same)

-- ---- the names that go

pub all_begin : (names : List Name) → filter (λ q. starts_with nat_eq q []) names ≡ names
all_begin [] = refl
all_begin (n ∷ names) = ap (λ (rest : List Name). n ∷ rest) (all_begin names)

-- what the three searches take of the names is what goes
pub taken_goes : (seat : Name → Seat) (held : List Name) (touched protected kept : List Path) → kept ≡ filter_map (λ other. keeps touched (seat other)) held
    → (sorted : List Path) → ((holder : Path) → is_on_way sorted holder ≡ is_on_way kept holder)
    → filter (λ q. passes touched protected sorted (seat q)) held ≡ filter (goes seat held touched protected) held
taken_goes seat held touched protected kept is sorted alike = filter_alike _ _ held (passes_goes seat held touched protected sorted (λ holder. alike holder ∙ ap (λ (ps : List Path). is_on_way ps holder) is))

-- in whatever order the places stand
pub goes_in_order : (seat : Name → Seat) (held : List Name) (touched protected more less : List Path)
    → ((holder : Path) → is_on_way more holder ≡ is_on_way touched holder) → ((holder : Path) → is_on_way less holder ≡ is_on_way protected holder)
    → filter (goes seat held more less) held ≡ filter (goes seat held touched protected) held
goes_in_order seat held touched protected more less a b = filter_alike _ _ held (λ name. goes_alike seat held touched protected more less name a b)

-- what is picked by a test is filtered
pub picked_filter : (p : Name → Bool) (names : List Name) → filter_map (λ q. cond (p q) (Some q) None) names ≡ filter p names
picked_filter p [] = refl
picked_filter p (n ∷ names) = ap (λ (rest : List Name). cons_option (cond (p n) (Some n) None) rest) (picked_filter p names) ∙ one (p n) (filter p names)
  where
    one : (b : Bool) (rest : List Name) → cons_option (cond b (Some n) None) rest ≡ cond b (n ∷ rest) rest
    one true rest = refl
    one false rest = refl

-- ---- where nothing was touched, nothing goes

pub none_there : {X : Type 0} (xs : List X) (n : ℕ) (b : Bool) → n ≡ length xs → b ≡ (n == 0) → b ≡ true → [] ≡ xs
none_there [] n b counted test is = refl
none_there (x ∷ xs) n b counted test is = let none : n ≡ 0 = eqb-true n 0 (sym test ∙ is) in absurd (omega arith)

nothing_goes : (seat : Name → Seat) (held : List Name) (protected : List Path) (name : Name) → goes seat held [] protected name ≡ false
unfolding goes
nothing_goes seat held protected name = by (seat name)
  where
    by : (s : Seat) → seat_goes seat held [] protected s ≡ false
    by (Holder path) = refl
    by (Leaf path) = refl
    by Apart = refl

none_pass : (test : Name → Bool) (names : List Name) → ((name : Name) → test name ≡ false) → [] ≡ filter test names
none_pass test [] none = refl
none_pass test (n ∷ names) none = none_pass test names none ∙ ap (λ b. cond b (n ∷ filter test names) (filter test names)) (sym (none n))

pub untouched : (files : Files) (m : Machine) (h : List Rec) (seat : Name → Seat) (touched protected : List Path) → [] ≡ touched → Follows files m m h h (Clear (goes seat (keys m) touched protected) ∷ [])
untouched files m h seat touched protected none =
    subst (λ (ps : List Path). Follows files m m h h (Clear (goes seat (keys m) ps protected) ∷ [])) none
    (cleared files m m h h (goes seat (keys m) [] protected) [] (none_pass (goes seat (keys m) [] protected) (keys m) (nothing_goes seat (keys m) protected)) (started files m h))
