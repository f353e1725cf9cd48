use Rattle.interpreter.proofs.Laws.Windows.{window_room, window_read}
use Rattle.std.proofs.Common.{arith}
use Rattle.interpreter.proofs.window.Window.word.Goals as goal

pub overflow_add-at : goal.overflow_add-at
overflow_add-at c = let r = window_room _ _ _ _ c.ranges.address.fits c.requires.1 4 (let e = c.requires.2 in omega arith) c.requires.0 in omega (arith, r)

pub overflow_add-end : goal.overflow_add-end
overflow_add-end c = let r = window_room _ _ _ _ c.ranges.address.fits c.requires.1 4 (let e = c.requires.2 in omega arith) c.requires.0 in omega (arith, r)

pub slice_bounds-word_at-end : goal.slice_bounds-word_at-end
slice_bounds-word_at-end c = window_room _ _ _ _ c.ranges.address.fits c.requires.1 4 (let e = c.requires.2 in omega arith) c.requires.0

pub returns : goal.returns
returns c = window_read _ _ _ _ c.ranges.address.fits c.requires.1 4 (let e = c.requires.2 in omega arith) c.requires.0 c.word_at.ensures
