-- A code by which trees are told apart.
use Rattle.std.specs.Prelude.{◌≡◌, ℕ, ◌==◌, Bool, true, false, if◌then◌else◌, List, [], ◌∷◌, pos, negsuc, refl}
use Rattle.std.proofs.Common.{ap, sym, ◌∙◌}
use Rattle.std.specs.Coded.{Coded}
use base.Stored.{Gv, gnil, gnum, gcons}
use Rattle.mi_text.specs.declared.env.Sign.{Sign}
use Rattle.mi_text.specs.declared.env.Sign.TheVariants as sign
use Rattle.mi_cond.specs.declared.operand.Operator.{Operator}
use Rattle.mi_cond.specs.declared.operand.Operator.TheVariants as op
use Rattle.mi_cond.specs.declared.operand.Relation.{Relation}
use Rattle.mi_cond.specs.declared.operand.Relation.TheVariants as relation
use Rattle.mi_cond.specs.declared.operand.Comparison.{Comparison}
use Rattle.mi_cond.specs.declared.operand.Value.{Value}
use Rattle.mi_cond.specs.declared.operand.Value.TheVariants as value
use Rattle.mi_cond.specs.Tree.{Tree, Alone, Compare, Not, Both}

abbrev op_code : Operator → ℕ
op_code op.And = 0
op_code op.Or = 1
op_code op.Xor = 2
op_code op.Eqv = 3
op_code op.Imp = 4

abbrev op_back : ℕ → Operator
op_back n = if n == 0 then op.And else if n == 1 then op.Or else if n == 2 then op.Xor else if n == 3 then op.Eqv else op.Imp

pub op-back : (o : Operator) → op_back (op_code o) ≡ o
op-back op.And = refl
op-back op.Or = refl
op-back op.Xor = refl
op-back op.Eqv = refl
op-back op.Imp = refl

abbrev relation_code : Relation → ℕ
relation_code relation.Equal = 0
relation_code relation.NotEqual = 1
relation_code relation.Greater = 2
relation_code relation.GreaterOrEqual = 3
relation_code relation.Less = 4
relation_code relation.LessOrEqual = 5
relation_code relation.Contains = 6
relation_code relation.BeginsWith = 7
relation_code relation.EndsWith = 8

abbrev relation_back : ℕ → Relation
relation_back n =
    if n == 0 then relation.Equal else if n == 1 then relation.NotEqual else if n == 2 then relation.Greater
    else if n == 3 then relation.GreaterOrEqual else if n == 4 then relation.Less else if n == 5 then relation.LessOrEqual
    else if n == 6 then relation.Contains else if n == 7 then relation.BeginsWith else relation.EndsWith

pub relation-back : (r : Relation) → relation_back (relation_code r) ≡ r
relation-back relation.Equal = refl
relation-back relation.NotEqual = refl
relation-back relation.Greater = refl
relation-back relation.GreaterOrEqual = refl
relation-back relation.Less = refl
relation-back relation.LessOrEqual = refl
relation-back relation.Contains = refl
relation-back relation.BeginsWith = refl
relation-back relation.EndsWith = refl

abbrev sign_code : Sign → ℕ
sign_code sign.Action = 0
sign_code sign.Installed = 1
sign_code sign.FeatureAction = 2
sign_code sign.FeatureInstalled = 3

abbrev sign_back : ℕ → Sign
sign_back n = if n == 0 then sign.Action else if n == 1 then sign.Installed else if n == 2 then sign.FeatureAction else sign.FeatureInstalled

pub sign-back : (s : Sign) → sign_back (sign_code s) ≡ s
sign-back sign.Action = refl
sign-back sign.Installed = refl
sign-back sign.FeatureAction = refl
sign-back sign.FeatureInstalled = refl

abbrev text_code : List ℕ → Gv
text_code [] = gnil
text_code (b ∷ bs) = gcons (gnum b) (text_code bs)

abbrev text_back : Gv → List ℕ
text_back (gcons (gnum b) g) = b ∷ text_back g
text_back g = []

pub text-back : (bs : List ℕ) → text_back (text_code bs) ≡ bs
text-back [] = refl
text-back (b ∷ bs) = ap (λ (xs : List ℕ). b ∷ xs) (text-back bs)

abbrev comparison_code : Comparison → Gv
comparison_code c = gcons (gnum (relation_code c.relation)) (gnum (if c.folds then 1 else 0))

abbrev comparison_back : Gv → Comparison
comparison_back (gcons (gnum n) (gnum k)) = record { relation = relation_back n; folds = k == 1 }
comparison_back g = record { relation = relation.Equal; folds = false }

pub bool-back : (b : Bool) → ((if b then 1 else 0) == 1) ≡ b
bool-back true = refl
bool-back false = refl

pub comparison-back : (c : Comparison) → comparison_back (comparison_code c) ≡ c
comparison-back c i = record { relation = relation-back c.relation i; folds = bool-back c.folds i }

abbrev value_code : Value → Gv
value_code (value.Property name) = gcons (gnum 0) (text_code name)
value_code (value.Variable name) = gcons (gnum 1) (text_code name)
value_code (value.Literal text) = gcons (gnum 2) (text_code text)
value_code (value.State s name) = gcons (gcons (gnum (sign_code s)) gnil) (text_code name)
value_code (value.Integer (pos n)) = gcons gnil (gcons (gnum 0) (gnum n))
value_code (value.Integer (negsuc n)) = gcons gnil (gcons (gnum 1) (gnum n))

abbrev text_value : ℕ → List ℕ → Value
text_value n text = if n == 0 then value.Property text else if n == 1 then value.Variable text else value.Literal text

abbrev value_back : Gv → Value
value_back (gcons (gnum n) g) = text_value n (text_back g)
value_back (gcons (gcons (gnum n) h) g) = value.State (sign_back n) (text_back g)
value_back (gcons gnil (gcons (gnum k) (gnum n))) = value.Integer (if k == 0 then pos n else negsuc n)
value_back g = value.Integer (pos 0)

pub value-back : (v : Value) → value_back (value_code v) ≡ v
value-back (value.Property name) = ap value.Property (text-back name)
value-back (value.Variable name) = ap value.Variable (text-back name)
value-back (value.Literal text) = ap value.Literal (text-back text)
value-back (value.State s name) = λ i. value.State (sign-back s i) (text-back name i)
value-back (value.Integer (pos n)) = refl
value-back (value.Integer (negsuc n)) = refl

abbrev tree_code : Tree → Gv
tree_code (Alone v) = gcons gnil (value_code v)
tree_code (Compare c l r) = gcons (gcons gnil (comparison_code c)) (gcons (value_code l) (value_code r))
tree_code (Not t) = gcons (gnum 0) (tree_code t)
tree_code (Both o l r) = gcons (gcons (gnum (op_code o)) (tree_code l)) (tree_code r)

abbrev tree_back : Gv → Tree
tree_back (gcons gnil g) = Alone (value_back g)
tree_back (gcons (gcons gnil c) (gcons l r)) = Compare (comparison_back c) (value_back l) (value_back r)
tree_back (gcons (gnum n) g) = Not (tree_back g)
tree_back (gcons (gcons (gnum o) l) r) = Both (op_back o) (tree_back l) (tree_back r)
tree_back g = Alone (value.Integer (pos 0))

pub tree-back : (t : Tree) → tree_back (tree_code t) ≡ t
tree-back (Alone v) = ap Alone (value-back v)
tree-back (Compare c l r) = λ i. Compare (comparison-back c i) (value-back l i) (value-back r i)
tree-back (Not t) = ap Not (tree-back t)
tree-back (Both o l r) = λ i. Both (op-back o i) (tree-back l i) (tree-back r i)

abbrev pub coded_tree : Coded Tree
coded_tree = record { code = tree_code; inj = λ x y p. sym (tree-back x) ∙ ap tree_back p ∙ tree-back y }
