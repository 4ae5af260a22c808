-- The scan over expanded parts gives the value of the whole groups.
use Rattle.std.proofs.Common.{◌≡◌, ℕ, Bool, true, false, cond, List, [], ◌∷◌, ◌++◌, map, Option, Some, None, refl, sym, ap, ◌∙◌, append_assoc, ◌&&◌, ◌||◌}
use Rattle.std.specs.Prelude.{nat_le, is_some, codes}
use Rattle.std.specs.List.{list_any}
use Rattle.std.specs.Str.{bytes_eq}
use Rattle.std.proofs.lemmas.List.{append-nil, length-map}
use Rattle.mi_text.specs.Lookups.{Lookups}
use Rattle.mi_format.specs.declared.token.Kind.{Kind}
use Rattle.mi_format.specs.declared.token.Kind.TheVariants.{Bracket, Brace}
use Rattle.mi_format.specs.declared.token.Token.{Token}
use Rattle.mi_format.specs.declared.token.Token.TheVariants.{Open}
use Rattle.mi_format.specs.declared.part.Brackets.{Brackets}
use Rattle.mi_format.specs.declared.part.Brackets.TheVariants.{Unnamed, Full, Empty}
use Rattle.mi_format.specs.Tokens.{opened, closes, shown, tokens}
use Rattle.mi_format.specs.Groups.{Pieces, End, Single, Group, marked}
use Rattle.mi_format.specs.Value.{named, Meaning, bracket, is_nothing, brace, group, beside, meaning}
use Rattle.mi_format.specs.Scan.{Maker, Frame, State, start, texted, begun, step_on, step, closed, scan, passes, scan_passes}
use Rattle.mi_format.specs.State.{Part, both, of_value, part_bracket, part_brace, part_group, plain, part_beside, parts}
use Rattle.mi_format.specs.Expansion.{expand_of}
use Rattle.mi_format.proofs.OneScan.{◌then◌, pieces, one_scan}

-- ---- a scan that is seen through a function

pub record Carries {A B : Type 0} (m : Maker A) (n : Maker B) (h : A → B) : Type 0 where
  pub nothing : h m.nothing ≡ n.nothing
  pub single : (t : Token) → h (m.single t) ≡ n.single t
  pub group : (k : Kind) (x : A) → h (m.group k x) ≡ n.group k (h x)
  pub beside : (x y : A) → h (m.beside x y) ≡ n.beside (h x) (h y)

abbrev seen_frame : {A B : Type 0} → (A → B) → Frame A → Frame B
seen_frame h f = record { kind = f.kind; before = h f.before }

abbrev seen : {A B : Type 0} → (A → B) → State A → State B
seen h s = record { frames = map (seen_frame h) s.frames; current = h s.current }

marked_same : {A B : Type 0} (o : Option Kind) (f : A → B) (x : B) (y : A) (g : Kind → B) (h : Kind → A) → x ≡ f y → ((j : Kind) → g j ≡ f (h j)) → marked o x g ≡ f (marked o y h)
marked_same None f x y g h e k = e
marked_same (Some j) f x y g h e k = k j

cond_same : {A B : Type 0} (b : Bool) (f : A → B) (x z : B) (y w : A) → x ≡ f y → z ≡ f w → cond b x z ≡ f (cond b y w)
cond_same true f x z y w e k = e
cond_same false f x z y w e k = k

module _ {A B : Type 0} (m : Maker A) (n : Maker B) (h : A → B) (c : Carries m n h) where
  grown : (fs : List (Frame A)) (x : A) (t : Token) → texted n (map (seen_frame h) fs) (h x) t ≡ seen h (texted m fs x t)
  grown fs x t = ap (λ (y : B). record { frames = map (seen_frame h) fs; current = y }) (ap (n.beside (h x)) (sym (c.single t)) ∙ sym (c.beside x (m.single t)))

  begins : (fs : List (Frame A)) (x : A) (k : Kind) → begun n (map (seen_frame h) fs) (h x) k ≡ seen h (begun m fs x k)
  begins fs x k = ap (λ (y : B). record { frames = record { kind = k; before = h x } ∷ map (seen_frame h) fs; current = y }) (sym c.nothing)

  step_seen : (fs : List (Frame A)) (x : A) (t : Token) → step_on n (map (seen_frame h) fs) (h x) t ≡ seen h (step_on m fs x t)
  step_seen [] x t = marked_same (opened t) (seen h) _ _ _ _ (grown [] x t) (begins [] x)
  step_seen (f ∷ fs) x t =
      cond_same (closes f.kind t) (seen h) _ _ _ _
      (ap (λ (y : B). record { frames = map (seen_frame h) fs; current = y }) (ap (n.beside (h f.before)) (sym (c.group f.kind x)) ∙ sym (c.beside f.before (m.group f.kind x))))
      (marked_same (opened t) (seen h) _ _ _ _ (grown (f ∷ fs) x t) (begins (f ∷ fs) x))

  closed_seen : (fs : List (Frame A)) (x : A) → closed n (map (seen_frame h) fs) (h x) ≡ h (closed m fs x)
  closed_seen [] x = refl
  closed_seen (f ∷ fs) x =
      ap (closed n (map (seen_frame h) fs))
      (ap (λ (y : B). n.beside y (h x)) (ap (n.beside (h f.before)) (sym (c.single (Open f.kind))) ∙ sym (c.beside f.before (m.single (Open f.kind))))
      ∙ sym (c.beside (m.beside f.before (m.single (Open f.kind))) x))
      ∙ closed_seen fs (m.beside (m.beside f.before (m.single (Open f.kind))) x)

  scan_seen : (ts : List Token) (s : State A) → scan n (seen h s) ts ≡ h (scan m s ts)
  scan_seen [] s = closed_seen s.frames s.current
  scan_seen (t ∷ ts) s = ap (λ (u : State B). scan n u ts) (step_seen s.frames s.current t) ∙ scan_seen ts (step m s t)

  passes_seen : (s : State A) (t : Token) → passes (seen h s) t ≡ passes s t
  passes_seen s t = ap (λ (l : ℕ). is_some (opened t) && nat_le 64 l) (length-map s.frames (seen_frame h))

  pub scan_passes_seen : (ts : List Token) (s : State A) → scan_passes n (seen h s) ts ≡ scan_passes m s ts
  scan_passes_seen [] s = refl
  scan_passes_seen (t ∷ ts) s =
      ap (λ (b : Bool). b || scan_passes n (step n (seen h s) t) ts) (passes_seen s t)
      ∙ ap (λ (b : Bool). passes s t || b) (ap (λ (u : State B). scan_passes n u ts) (step_seen s.frames s.current t) ∙ scan_passes_seen ts (step m s t))

  pub start_seen : start n ≡ seen h (start m)
  start_seen = ap (λ (y : B). record { frames = []; current = y }) (sym c.nothing)

  pub scanned : (ts : List Token) → scan n (start n) ts ≡ h (scan m (start m) ts)
  scanned ts = ap (λ (u : State B). scan n u ts) start_seen ∙ scan_seen ts (start m)

  pub passed : (ts : List Token) → scan_passes n (start n) ts ≡ scan_passes m (start m) ts
  passed ts = ap (λ (u : State B). scan_passes n u ts) start_seen ∙ scan_passes_seen ts (start m)

-- ---- the part that pieces mean

abbrev of_values : List (List ℕ) → Brackets
of_values [] = Unnamed
of_values (v ∷ vs) = both (of_value v) (of_values vs)

abbrev part_of : Meaning → Part
part_of m = record { text = m.text; brackets = of_values m.values }

both_assoc : (a b c : Brackets) → both (both a b) c ≡ both a (both b c)
both_assoc Unnamed b c = refl
both_assoc Empty b c = refl
both_assoc Full Unnamed c = refl
both_assoc Full Empty c = refl
both_assoc Full Full Unnamed = refl
both_assoc Full Full Full = refl
both_assoc Full Full Empty = refl

both_unnamed : (a : Brackets) → both a Unnamed ≡ a
both_unnamed Unnamed = refl
both_unnamed Full = refl
both_unnamed Empty = refl

of_values-append : (vs ws : List (List ℕ)) → of_values (vs ++ ws) ≡ both (of_values vs) (of_values ws)
of_values-append [] ws = refl
of_values-append (v ∷ vs) ws = ap (both (of_value v)) (of_values-append vs ws) ∙ sym (both_assoc (of_value v) (of_values vs) (of_values ws))

part_of-beside : (x y : Meaning) → part_of (beside x y) ≡ part_beside (part_of x) (part_of y)
part_of-beside x y = ap (λ (b : Brackets). let p : Part = record { text = x.text ++ y.text; brackets = b } in p) (of_values-append x.values y.values)

beside-assoc : (x y z : Meaning) → beside (beside x y) z ≡ beside x (beside y z)
beside-assoc x y z =
    ap (λ (t : List ℕ). let m : Meaning = record { text = t; values = (x.values ++ y.values) ++ z.values } in m) (append_assoc x.text y.text z.text)
    ∙ ap (λ (vs : List (List ℕ)). let m : Meaning = record { text = x.text ++ (y.text ++ z.text); values = vs } in m) (append_assoc x.values y.values z.values)

beside-nothing : (x : Meaning) → beside x (record { text = []; values = [] }) ≡ x
beside-nothing x =
    ap (λ (t : List ℕ). let m : Meaning = record { text = t; values = x.values ++ [] } in m) (append-nil x.text)
    ∙ ap (λ (vs : List (List ℕ)). let m : Meaning = record { text = x.text; values = vs } in m) (append-nil x.values)

full_again : (b : Brackets) → both Full (both Full b) ≡ both Full b
full_again Unnamed = refl
full_again Full = refl
full_again Empty = refl

-- a brace in which something is named
filled : (x : List ℕ) (vs : List (List ℕ)) → part_brace x (both Full (of_values vs)) ≡ cond (list_any is_nothing vs) [] x
filled x [] = refl
filled x (v ∷ vs) =
    elim (is_nothing v) as (λ b. part_brace x (both Full (both (cond b Empty Full) (of_values vs))) ≡ cond (b || list_any is_nothing vs) [] x) [
      | true ↦ refl
      | false ↦ ap (part_brace x) (full_again (of_values vs)) ∙ filled x vs
    ]

brace_same : (x : List ℕ) (vs : List (List ℕ)) → brace x vs ≡ part_brace x (of_values vs)
brace_same x [] = refl
brace_same x (v ∷ vs) =
    elim (is_nothing v) as (λ b. cond (b || list_any is_nothing vs) [] x ≡ part_brace x (both (cond b Empty Full) (of_values vs))) [
      | true ↦ refl
      | false ↦ sym (filled x vs)
    ]

bracket_same : (x : List ℕ) (o : Option (List ℕ)) → part_of (bracket x o) ≡ part_bracket x o
bracket_same x None = refl
bracket_same x (Some v) =
    elim (bytes_eq x (codes "~")) as (λ b. part_of (record { text = v; values = cond b [] (v ∷ []) }) ≡ record { text = v; brackets = cond b Unnamed (of_value v) }) [
      | true ↦ refl
      | false ↦ ap (λ (b : Brackets). let p : Part = record { text = v; brackets = b } in p) (both_unnamed (of_value v))
    ]

group_same : (L : Lookups) (k : Kind) (m : Meaning) → part_of (group L k m) ≡ part_group L k (part_of m)
group_same L Bracket m = bracket_same m.text (named L m.text)
group_same L Brace m = ap plain (brace_same m.text m.values)

meaning-then : (L : Lookups) (p q : Pieces) → meaning L (p then q) ≡ beside (meaning L p) (meaning L q)
meaning-then L End q = refl
meaning-then L (Single t p) q = ap (beside (record { text = shown t; values = [] })) (meaning-then L p q) ∙ sym (beside-assoc (record { text = shown t; values = [] }) (meaning L p) (meaning L q))
meaning-then L (Group k i p) q = ap (beside (group L k (meaning L i))) (meaning-then L p q) ∙ sym (beside-assoc (group L k (meaning L i)) (meaning L p) (meaning L q))

pub carries : (L : Lookups) → Carries pieces (parts L) (λ p. part_of (meaning L p))
carries L = record {
  nothing = refl;
  single = λ t. ap part_of (beside-nothing (record { text = shown t; values = [] }));
  group = λ k i. ap part_of (beside-nothing (group L k (meaning L i))) ∙ group_same L k (meaning L i);
  beside = λ p q. ap part_of (meaning-then L p q) ∙ part_of-beside (meaning L p) (meaning L q);
}

pub expanded : (L : Lookups) (text : List ℕ) → (scan (parts L) (start (parts L)) (tokens text)).text ≡ expand_of L text
unfolding expand_of
expanded L text =
    ap (λ (p : Part). p.text) (scanned pieces (parts L) (λ p. part_of (meaning L p)) (carries L) (tokens text) ∙ ap (λ (p : Pieces). part_of (meaning L p)) (one_scan (tokens text)))
