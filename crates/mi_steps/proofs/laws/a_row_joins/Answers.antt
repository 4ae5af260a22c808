use Rattle.mi_steps.proofs.RowLemmas.{row_more}
use Rattle.mi_steps.proofs.laws.a_row_joins.Goals as goal

pub returns : goal.returns
returns c files a b d h i j effects effect ts so_far gives one = row_more files a b h i effects so_far d j effect ts gives one
