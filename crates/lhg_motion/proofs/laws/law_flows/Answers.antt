use Rattle.lhg_motion.specs.Join.{flow_join, flow_part, flow_upto}
use Rattle.lhg_motion.specs.SpeedLemmas.{flow_speed, speed_flow, flow_decided}
use Rattle.lhg_motion.proofs.laws.law_flows.Goals as goal

pub returns-clause-join : goal.returns-clause-join
returns-clause-join c = record { join = flow_join; part = flow_part; upto = flow_upto }

pub returns-clause-speed : goal.returns-clause-speed
returns-clause-speed c = record { speed = λ i f x t y. (flow_speed i f x t y, speed_flow i f x t y); decided = flow_decided }
