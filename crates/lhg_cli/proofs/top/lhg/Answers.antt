use Rattle.std.proofs.Common.{◌≡◌, ◌⊎◌}
use Rattle.lhg_cli.specs.Answer.{IsSolvable, IsTextFor, IsUsedUp}
use Rattle.lhg_cli.specs.LazyAnswer.{IsLazySolvable}
use Rattle.lhg_cli.specs.ReachAnswer.{IsExplorable, IsEndless}
use Rattle.lhg_cli.specs.RunAnswer.{IsRunnable, IsUnrunnable, IsSureRun}
use Rattle.lhg_cli.specs.SpoilAnswer.{IsSpoilable, IsSureSpoil}
use Rattle.lhg_cli.specs.StateAnswer.{IsExplainable, IsSureStatus}
use Rattle.lhg_cli.specs.Verdict.{IsValidInput, IsInvalidInput}
use Rattle.lhg_cli.specs.declared.status.Status.TheVariants as status
use Rattle.lhg_cli.specs.declared.request.Request.TheVariants.{Migrate}
use Rattle.lhg_cli.proofs.AnswerSteps.{faulted, faulted_for}
use Rattle.lhg_cli.proofs.Complete.{complete, used_up, refused, valid, invalid, migrated, ran, unrun, explained, lazy, lazy_used_up, spoiled, reach, reach_endless, generated}
use Rattle.lhg_cli.proofs.ReadNever.{never_read}
use Rattle.lhg_cli.proofs.top.lhg.Goals as goal

pub returns-in-Ok-write_all-clause-read : goal.returns-in-Ok-write_all-clause-read
returns-in-Ok-write_all-clause-read g c = λ e. absurd (never_read _ _ _ _ c.in-Ok.ensures.ok e)

pub returns-in-Ok-write_all-clause-complete : goal.returns-in-Ok-write_all-clause-complete
returns-in-Ok-write_all-clause-complete g c = complete _ _ _ _ _ _ c.in-Ok.ensures.ok

pub returns-in-Ok-write_all-clause-used_up : goal.returns-in-Ok-write_all-clause-used_up
returns-in-Ok-write_all-clause-used_up g c = used_up _ _ _ _ _ _ c.in-Ok.ensures.ok

pub returns-in-Ok-write_all-clause-refused : goal.returns-in-Ok-write_all-clause-refused
returns-in-Ok-write_all-clause-refused g c = refused _ _ _ _ _ _ c.in-Ok.ensures.ok

pub returns-in-Ok-write_all-clause-valid : goal.returns-in-Ok-write_all-clause-valid
returns-in-Ok-write_all-clause-valid g c = valid _ _ _ _ _ _ c.in-Ok.ensures.ok

pub returns-in-Ok-write_all-clause-invalid : goal.returns-in-Ok-write_all-clause-invalid
returns-in-Ok-write_all-clause-invalid g c = invalid _ _ _ _ _ _ c.in-Ok.ensures.ok

pub returns-in-Ok-write_all-clause-migrated : goal.returns-in-Ok-write_all-clause-migrated
returns-in-Ok-write_all-clause-migrated g c = migrated _ _ _ _ _ _ c.in-Ok.ensures.ok

pub returns-in-Ok-write_all-clause-ran : goal.returns-in-Ok-write_all-clause-ran
returns-in-Ok-write_all-clause-ran g c = ran _ _ _ _ _ _ c.in-Ok.ensures.ok

pub returns-in-Ok-write_all-clause-unrun : goal.returns-in-Ok-write_all-clause-unrun
returns-in-Ok-write_all-clause-unrun g c = unrun _ _ _ _ _ _ c.in-Ok.ensures.ok

pub returns-in-Ok-write_all-clause-explained : goal.returns-in-Ok-write_all-clause-explained
returns-in-Ok-write_all-clause-explained g c = explained _ _ _ _ _ _ c.in-Ok.ensures.ok

pub returns-in-Ok-write_all-clause-lazy : goal.returns-in-Ok-write_all-clause-lazy
returns-in-Ok-write_all-clause-lazy g c = lazy _ _ _ _ _ _ c.in-Ok.ensures.ok

pub returns-in-Ok-write_all-clause-lazy_used_up : goal.returns-in-Ok-write_all-clause-lazy_used_up
returns-in-Ok-write_all-clause-lazy_used_up g c = lazy_used_up _ _ _ _ _ _ c.in-Ok.ensures.ok

pub returns-in-Ok-write_all-clause-spoiled : goal.returns-in-Ok-write_all-clause-spoiled
returns-in-Ok-write_all-clause-spoiled g c = spoiled _ _ _ _ _ _ c.in-Ok.ensures.ok

pub returns-in-Ok-write_all-clause-reach : goal.returns-in-Ok-write_all-clause-reach
returns-in-Ok-write_all-clause-reach g c = reach _ _ _ _ _ _ c.in-Ok.ensures.ok

pub returns-in-Ok-write_all-clause-reach_endless : goal.returns-in-Ok-write_all-clause-reach_endless
returns-in-Ok-write_all-clause-reach_endless g c = reach_endless _ _ _ _ _ _ c.in-Ok.ensures.ok

pub returns-in-Ok-write_all-clause-generated : goal.returns-in-Ok-write_all-clause-generated
returns-in-Ok-write_all-clause-generated g c = λ k asked within calm. generated _ _ _ _ c.in-Ok.ensures.ok k asked within

-- where the write failed, nothing is promised of a sink that did not fail
pub returns-in-Ok-clause-complete : goal.returns-in-Ok-clause-complete
returns-in-Ok-clause-complete g c = λ n asked. faulted _ _ (λ bytes. IsSolvable bytes n) _ c.in-Err-write_all.ensures.fault

pub returns-in-Ok-clause-used_up : goal.returns-in-Ok-clause-used_up
returns-in-Ok-clause-used_up g c = λ n asked. faulted _ _ (λ bytes. IsUsedUp bytes n) _ c.in-Err-write_all.ensures.fault

pub returns-in-Ok-clause-refused : goal.returns-in-Ok-clause-refused
returns-in-Ok-clause-refused g c = λ r asked. faulted _ _ (λ bytes. ¬ IsTextFor r bytes) _ c.in-Err-write_all.ensures.fault

pub returns-in-Ok-clause-valid : goal.returns-in-Ok-clause-valid
returns-in-Ok-clause-valid g c = λ asked. faulted _ _ IsValidInput _ c.in-Err-write_all.ensures.fault

pub returns-in-Ok-clause-invalid : goal.returns-in-Ok-clause-invalid
returns-in-Ok-clause-invalid g c = λ asked. faulted _ _ IsInvalidInput _ c.in-Err-write_all.ensures.fault

pub returns-in-Ok-clause-migrated : goal.returns-in-Ok-clause-migrated
returns-in-Ok-clause-migrated g c = λ asked. faulted _ _ (λ bytes. IsTextFor Migrate bytes) _ c.in-Err-write_all.ensures.fault

pub returns-in-Ok-clause-ran : goal.returns-in-Ok-clause-ran
returns-in-Ok-clause-ran g c = λ asked. faulted_for _ IsRunnable (λ bytes t. IsSureRun t.input.value status.Write ⊎ (status.Write ≡ status.Memory)) _ c.in-Err-write_all.ensures.fault

pub returns-in-Ok-clause-unrun : goal.returns-in-Ok-clause-unrun
returns-in-Ok-clause-unrun g c = λ asked. faulted _ _ IsUnrunnable _ c.in-Err-write_all.ensures.fault

pub returns-in-Ok-clause-explained : goal.returns-in-Ok-clause-explained
returns-in-Ok-clause-explained g c = λ n asked. faulted_for _ (IsExplainable n) (λ bytes t. IsSureStatus n t.input.value status.Write ⊎ (status.Write ≡ status.Memory)) _ c.in-Err-write_all.ensures.fault

pub returns-in-Ok-clause-spoiled : goal.returns-in-Ok-clause-spoiled
returns-in-Ok-clause-spoiled g c = λ n asked. faulted_for _ (IsSpoilable n) (λ bytes t. IsSureSpoil n t.input.value status.Write ⊎ (status.Write ≡ status.Memory)) _ c.in-Err-write_all.ensures.fault

pub returns-in-Ok-clause-generated : goal.returns-in-Ok-clause-generated
returns-in-Ok-clause-generated g c = λ k asked within calm. absurd (calm c.in-Err-write_all.ensures.fault)

pub returns-in-Ok-clause-lazy : goal.returns-in-Ok-clause-lazy
returns-in-Ok-clause-lazy g c = λ n asked. faulted _ _ (λ bytes. IsLazySolvable bytes n) _ c.in-Err-write_all.ensures.fault

pub returns-in-Ok-clause-lazy_used_up : goal.returns-in-Ok-clause-lazy_used_up
returns-in-Ok-clause-lazy_used_up g c = λ n asked. faulted _ _ (λ bytes. IsUsedUp bytes n) _ c.in-Err-write_all.ensures.fault

pub returns-in-Ok-clause-reach : goal.returns-in-Ok-clause-reach
returns-in-Ok-clause-reach g c = λ n asked. faulted _ _ (λ bytes. IsExplorable n bytes) _ c.in-Err-write_all.ensures.fault

pub returns-in-Ok-clause-reach_endless : goal.returns-in-Ok-clause-reach_endless
returns-in-Ok-clause-reach_endless g c = λ n asked. faulted _ _ (λ bytes. IsEndless n bytes) _ c.in-Err-write_all.ensures.fault
