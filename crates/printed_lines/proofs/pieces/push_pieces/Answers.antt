use Rattle.std.proofs.Common.{◌++◌, map, ◌∙◌, ap}
use Rattle.std.specs.List.{concat}
use Rattle.std.proofs.lemmas.List.{take_all}
use Rattle.printed_lines.specs.Lines.{piece_text}
use Rattle.printed_lines.proofs.Joined.{piece_more}
use Rattle.printed_lines.proofs.pieces.push_pieces.Goals as goal

pub loop-piece-preserved : goal.loop-piece-preserved
loop-piece-preserved c =
    piece_more c.args.pieces.now c.loop-piece.piece-index _ c.args.text.now.items c.loop-piece.text.items _ c.loop-piece-test.true c.loop-piece.invariant c.in_ok-push_piece.ensures

pub returns : goal.returns
returns c =
    c.loop-piece.invariant
    ∙ ap (λ pieces. c.args.text.now.items ++ concat (map piece_text pieces)) (take_all c.loop-piece.piece-index c.args.pieces.now c.loop-piece-test.false)
