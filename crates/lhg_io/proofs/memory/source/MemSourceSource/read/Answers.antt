use Rattle.std.proofs.Common.{drop, take, length, arith, sym, ap, ◌≡◌, ◌∙◌, ◌+◌, ◌-◌, drop_of_length-le, length-take}
use Rattle.lhg_io.proofs.Bytes.{copied}
use Rattle.lhg_io.proofs.memory.source.MemSourceSource.read.Goals as goal

pub returns-clause-bytes : goal.returns-clause-bytes
returns-clause-bytes c =
    let after = c.copy_from_slice.ensures in
    let size : length c.copy_from_slice.new.self ≡ c.min-n.result =
    omega (arith, after.len, length-take c.min-n.result c.args.buf.now, c.min-n.ensures) in
    let is : c.copy_from_slice.new.self ≡ take ((c.self.inside.at + c.min-n.result) - c.self.inside.at) (drop c.self.inside.at c.self.inside.bytes.items) =
    rw c.deref.ensures.value at after.after in
    let left : c.args.self.now.left ≡ drop c.self.inside.at c.self.inside.bytes.items = ap (λ s. s.left) (sym c.self.view_is) in
    (left ∙ copied _ _ _ _ _ size is, λ none some. drop_of_length-le c.self.inside.bytes.items (omega arith))
