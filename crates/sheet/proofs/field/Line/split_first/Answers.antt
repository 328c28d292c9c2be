use Rattle.std.proofs.Common.{◌+◌, length, ap, arith}
use Rattle.std.proofs.lemmas.List.{take_rest, length-drop}
use Rattle.sheet.specs.Words.{seen}
use Rattle.sheet.proofs.Fields.{size_is, next_inside, count_behind, cell_behind}
use Rattle.sheet.proofs.field.Line.split_first.Goals as goal

pub slice_bounds-rest-count : goal.slice_bounds-rest-count
slice_bounds-rest-count c = next_inside c.args.self.place c.args.self.bytes.now c.len-next.result (seen c.part-first.result) c.part-first.ensures c.len-next.ensures c.requires

pub slice_bounds-rest-start : goal.slice_bounds-rest-start
slice_bounds-rest-start c = next_inside c.args.self.place c.args.self.bytes.now c.len-next.result (seen c.part-first.result) c.part-first.ensures c.len-next.ensures c.requires

pub overflow_add-rest : goal.overflow_add-rest
overflow_add-rest c =
    let inside = next_inside c.args.self.place c.args.self.bytes.now c.len-next.result (seen c.part-first.result) c.part-first.ensures c.len-next.ensures c.requires in
    omega (arith, inside, c.args.self.ends)

pub invariant_of-rest : goal.invariant_of-rest
invariant_of-rest c =
    let l = c.args.self.bytes.now in
    let n = c.len-next.result in
    let inside = next_inside c.args.self.place l n (seen c.part-first.result) c.part-first.ensures c.len-next.ensures c.requires in
    record { ends = omega (arith, inside, c.args.self.ends, length-drop (n + 1) l, ap length (take_rest l (n + 1))) }

pub returns-clause-count : goal.returns-clause-count
returns-clause-count c =
    let l = c.args.self.bytes.now in
    let n = c.len-next.result in
    let size = size_is c.args.self.place l 0 n (seen c.part-first.result) c.part-first.ensures c.len-next.ensures in
    count_behind l _ n size c.requires (take_rest l (n + 1))

pub returns-clause-rest : goal.returns-clause-rest
returns-clause-rest c i =
    let l = c.args.self.bytes.now in
    let n = c.len-next.result in
    let size = size_is c.args.self.place l 0 n (seen c.part-first.result) c.part-first.ensures c.len-next.ensures in
    cell_behind l _ n size c.requires (take_rest l (n + 1)) c.args.self.place i
