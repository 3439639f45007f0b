use Rattle.lhg_plant.specs.Views.{plain_plant}
use Rattle.lhg_play.specs.Views.{plain_move}
use Rattle.lhg_math.specs.ListFacts.{all_map_at}
use Rattle.lhg_text.specs.EscapeText.{IsFittingMove}
use Rattle.lhg_text.proofs.escapes.push_moves.Goals as goal

pub push_move-requires : goal.push_move-requires
push_move-requires c = all_map_at (IsFittingMove (plain_plant c.args.plant.now)) plain_move c.args.moves.now c.loop-i.i c.index-moves-i.result c.requires c.loop-i-test.true c.index-moves-i.is
