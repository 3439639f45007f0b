-- What do contracts see of ways and steps that the code holds?
use Rattle.lhg_plant.specs.Views.{plain_state}
use Rattle.lhg_play.specs.Views.{plain_move, plain_moves, plain_last}
use Rattle.lhg_explain.specs.declared.explaining.Way.{Way}
use Rattle.lhg_explain.specs.declared.following.Next.{Next}
use Rattle.lhg_explain.specs.declared.following.Next.TheVariants.{On, Out, By}
use Rattle.lhg_plant.specs.Explained.{PlainWay}
use Rattle.lhg_loss.specs.Explanation.{PlainNext, flows_on, flows_out, switches}

-- a way as plain data
abbrev pub plain_way : Way → PlainWay
plain_way way = record { moves = plain_moves way.moves.items; last = plain_last way.last }

-- a step as plain data
abbrev pub plain_next : Next → PlainNext
plain_next (On move m) = flows_on (plain_move move) m
plain_next (Out move) = flows_out (plain_move move)
plain_next (By e result) = switches e (plain_state result)
