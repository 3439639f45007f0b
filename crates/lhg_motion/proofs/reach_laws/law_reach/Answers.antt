use Rattle.std.specs.Prelude.{◌++◌}
use Rattle.lhg_motion.specs.Found.{pieces_of}
use Rattle.lhg_motion.specs.StepLemmas.{stays_through, through_stays, named_steps}
use Rattle.lhg_motion.specs.PlayPoints.{play_within, play_outside}
use Rattle.lhg_motion.specs.ReachSound.{reach_sound}
use Rattle.lhg_motion.specs.ReachWhole.{reach_whole}
use Rattle.lhg_motion.proofs.reach_laws.law_reach.Goals as goal

pub returns : goal.returns
returns c = record {
  sound = reach_sound;
  whole = reach_whole;
  exact = λ n bad near found flow steps settled x e. (reach_sound n bad near found flow steps x e, reach_whole n bad near found flow settled x e);
  named = λ n bad near flow fs h. reach_sound n bad near (pieces_of fs) flow (named_steps n near (bad ++ near) bad flow fs h);
  invariant = λ n inv flow ways sub x e moves i. (play_within n inv flow ways sub x e moves i, play_outside inv flow x moves);
  rest = λ piece x. (through_stays piece x, stays_through piece x);
}
