use Rattle.std.proofs.Common.{◌-◌, length, drop, arith, length-drop}
use Rattle.mi_volume.specs.declared.volume.TheConstants.{PIECE}
use Rattle.mi_runner.proofs.PieceLemmas.{piece_of}
use Rattle.mi_runner.proofs.piece.piece_at.Goals as goal

pub returns-clause-piece : goal.returns-clause-piece
returns-clause-piece c =
    let cut = length-drop c.args.at c.args.bytes.now in
    piece_of c.min.result PIECE (length c.args.bytes.now - c.args.at) (drop c.args.at c.args.bytes.now) (omega (arith, cut)) c.min.ensures
