use Rattle.lhg_motion.specs.ReachSound.{level_play}
use Rattle.lhg_motion.specs.ReachBound.{play_level}
use Rattle.lhg_motion.specs.LayerLaws.{level_grows, level_counts, layers_sound, layers_whole, layers_few}
use Rattle.lhg_motion.specs.LayerMade.{layer_made}
use Rattle.lhg_motion.proofs.reach_laws.law_layers.Goals as goal

pub returns-clause-levels : goal.returns-clause-levels
returns-clause-levels c = record { play = level_play; within = play_level; grows = level_grows; counts = level_counts }

pub returns-clause-whole : goal.returns-clause-whole
returns-clause-whole c = record {
  exact = λ n bad near flow layers h settled x e. (layers_sound n bad near flow layers h x e, layers_whole n bad near flow layers settled x e);
  made = layer_made;
  few = layers_few;
}
