use Rattle.std.proofs.Common.{◌≡◌, true, length, map, take, subst}
use Rattle.lhg_math.specs.Number.{nought}
use Rattle.lhg_num.specs.Halting.{IsWideBy}
use Rattle.lhg_row.specs.Values.{marked_value}
use Rattle.lhg_num.specs.AnswerLaws.{wide_on}
use Rattle.lhg_plant.proofs.AcrossSteps.{front, front-part, back-rest, rest_answers}
use Rattle.lhg_plant.proofs.jump_rows.value_across.Goals as goal

pub returns-in_err-part : goal.returns-in_err-part
returns-in_err-part g c =
    let m = g.N.Scalar.meaning in
    let a = g.N.Scalar.arithmetic in
    let olds = c.args.old.now in
    let wide : (front m a nought c.args.coefs.now olds).wide ≡ true =
    subst (λ z. (marked_value a z (map m (take (length olds) c.args.coefs.now)) (map m olds)).wide ≡ true) c.zero.ensures
    (subst (λ cs. (marked_value a (m c.zero.result) (map m cs) (map m olds)).wide ≡ true) c.split_at.ensures.front c.in_err-part.ensures) in
    wide_on c.from_residual.result _ m _ c.from_residual.ensures.0 (front-part m a nought c.args.coefs.now olds c.args.new.now c.requires) wide

pub returns : goal.returns
returns g c =
    let m = g.N.Scalar.meaning in
    let a = g.N.Scalar.arithmetic in
    let olds = c.args.old.now in
    let part : m c.in_ok-part.part ≡ (front m a nought c.args.coefs.now olds).value =
    subst (λ z. m c.in_ok-part.part ≡ (marked_value a z (map m (take (length olds) c.args.coefs.now)) (map m olds)).value) c.zero.ensures
    (subst (λ cs. m c.in_ok-part.part ≡ (marked_value a (m c.zero.result) (map m cs) (map m olds)).value) c.split_at.ensures.front c.in_ok-part.ensures) in
    rest_answers c.value_from-2.result _ _ m (back-rest m a nought c.args.coefs.now olds c.args.new.now c.requires c.in_ok-part.part part)
    (subst (λ cs. IsWideBy c.value_from-2.result (marked_value a (m c.in_ok-part.part) (map m cs) (map m c.args.new.now)) m) c.split_at.ensures.back c.value_from-2.ensures)
