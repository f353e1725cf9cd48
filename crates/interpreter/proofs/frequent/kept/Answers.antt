use Rattle.std.proofs.Common.{refl, arith}
use Rattle.interpreter.specs.OpcodeMap.{find, found, accesses, decode_by, by_opcode, memory, jumps, branches, immediates, loads, stores, conditionals}
use Rattle.interpreter.proofs.Laws.Frequent.{reaches, reaches_none}
use Rattle.interpreter.proofs.frequent.kept.Goals as goal

pub returns-in_ok-near-in-32 : goal.returns-in_ok-near-in-32
unfolding find found accesses decode_by by_opcode memory jumps branches immediates loads stores conditionals
returns-in_ok-near-in-32 c = reaches _ _ _ _ c.requires.1 0x20 c.in-32.is (omega arith) refl c.near.ensures c.in_ok-near-in-32.was (simp (c.ok.ensures.value, c.lb.ensures))

pub returns-in_err-near-in-32 : goal.returns-in_err-near-in-32
returns-in_err-near-in-32 c = rw c.from_residual.ensures (reaches_none _ _ _ _)

pub returns-in_ok-near-in-36 : goal.returns-in_ok-near-in-36
unfolding find found accesses decode_by by_opcode memory jumps branches immediates loads stores conditionals
returns-in_ok-near-in-36 c = reaches _ _ _ _ c.requires.1 0x24 c.in-36.is (omega arith) refl c.near-in-36.ensures c.in_ok-near-in-36.was (simp (c.ok-in-36.ensures.value, c.lbu.ensures))

pub returns-in_err-near-in-36 : goal.returns-in_err-near-in-36
returns-in_err-near-in-36 c = rw c.from_residual-in_err-near-in-36.ensures (reaches_none _ _ _ _)

pub returns-in_ok-near-in-33 : goal.returns-in_ok-near-in-33
unfolding find found accesses decode_by by_opcode memory jumps branches immediates loads stores conditionals
returns-in_ok-near-in-33 c = reaches _ _ _ _ c.requires.1 0x21 c.in-33.is (omega arith) refl c.near-in-33.ensures c.in_ok-near-in-33.was (simp (c.ok-in-33.ensures.value, c.lh.ensures))

pub returns-in_err-near-in-33 : goal.returns-in_err-near-in-33
returns-in_err-near-in-33 c = rw c.from_residual-in_err-near-in-33.ensures (reaches_none _ _ _ _)

pub returns-in_ok-near-in-37 : goal.returns-in_ok-near-in-37
unfolding find found accesses decode_by by_opcode memory jumps branches immediates loads stores conditionals
returns-in_ok-near-in-37 c = reaches _ _ _ _ c.requires.1 0x25 c.in-37.is (omega arith) refl c.near-in-37.ensures c.in_ok-near-in-37.was (simp (c.ok-in-37.ensures.value, c.lhu.ensures))

pub returns-in_err-near-in-37 : goal.returns-in_err-near-in-37
returns-in_err-near-in-37 c = rw c.from_residual-in_err-near-in-37.ensures (reaches_none _ _ _ _)

pub returns-in_ok-near-in-35 : goal.returns-in_ok-near-in-35
unfolding find found accesses decode_by by_opcode memory jumps branches immediates loads stores conditionals
returns-in_ok-near-in-35 c = reaches _ _ _ _ c.requires.1 0x23 c.in-35.is (omega arith) refl c.near-in-35.ensures c.in_ok-near-in-35.was (simp (c.ok-in-35.ensures.value, c.lw.ensures))

pub returns-in_err-near-in-35 : goal.returns-in_err-near-in-35
returns-in_err-near-in-35 c = rw c.from_residual-in_err-near-in-35.ensures (reaches_none _ _ _ _)

pub returns-in_ok-near-in-39 : goal.returns-in_ok-near-in-39
unfolding find found accesses decode_by by_opcode memory jumps branches immediates loads stores conditionals
returns-in_ok-near-in-39 c = reaches _ _ _ _ c.requires.1 0x27 c.in-39.is (omega arith) refl c.near-in-39.ensures c.in_ok-near-in-39.was (simp (c.ok-in-39.ensures.value, c.lwu.ensures))

pub returns-in_err-near-in-39 : goal.returns-in_err-near-in-39
returns-in_err-near-in-39 c = rw c.from_residual-in_err-near-in-39.ensures (reaches_none _ _ _ _)

pub returns-in_ok-near-in-55 : goal.returns-in_ok-near-in-55
unfolding find found accesses decode_by by_opcode memory jumps branches immediates loads stores conditionals
returns-in_ok-near-in-55 c = reaches _ _ _ _ c.requires.1 0x37 c.in-55.is (omega arith) refl c.near-in-55.ensures c.in_ok-near-in-55.was (simp (c.ok-in-55.ensures.value, c.ld.ensures))

pub returns-in_err-near-in-55 : goal.returns-in_err-near-in-55
returns-in_err-near-in-55 c = rw c.from_residual-in_err-near-in-55.ensures (reaches_none _ _ _ _)

pub returns-in_ok-near-in-40 : goal.returns-in_ok-near-in-40
unfolding find found accesses decode_by by_opcode memory jumps branches immediates loads stores conditionals
returns-in_ok-near-in-40 c = reaches _ _ _ _ c.requires.1 0x28 c.in-40.is (omega arith) refl c.near-in-40.ensures c.in_ok-near-in-40.was (simp (c.ok-in-40.ensures.value, c.sb.ensures))

pub returns-in_err-near-in-40 : goal.returns-in_err-near-in-40
returns-in_err-near-in-40 c = rw c.from_residual-in_err-near-in-40.ensures (reaches_none _ _ _ _)

pub returns-in_ok-near-in-41 : goal.returns-in_ok-near-in-41
unfolding find found accesses decode_by by_opcode memory jumps branches immediates loads stores conditionals
returns-in_ok-near-in-41 c = reaches _ _ _ _ c.requires.1 0x29 c.in-41.is (omega arith) refl c.near-in-41.ensures c.in_ok-near-in-41.was (simp (c.ok-in-41.ensures.value, c.sh.ensures))

pub returns-in_err-near-in-41 : goal.returns-in_err-near-in-41
returns-in_err-near-in-41 c = rw c.from_residual-in_err-near-in-41.ensures (reaches_none _ _ _ _)

pub returns-in_ok-near-in-43 : goal.returns-in_ok-near-in-43
unfolding find found accesses decode_by by_opcode memory jumps branches immediates loads stores conditionals
returns-in_ok-near-in-43 c = reaches _ _ _ _ c.requires.1 0x2b c.in-43.is (omega arith) refl c.near-in-43.ensures c.in_ok-near-in-43.was (simp (c.ok-in-43.ensures.value, c.sw.ensures))

pub returns-in_err-near-in-43 : goal.returns-in_err-near-in-43
returns-in_err-near-in-43 c = rw c.from_residual-in_err-near-in-43.ensures (reaches_none _ _ _ _)

pub returns-in_ok-near-in-63 : goal.returns-in_ok-near-in-63
unfolding find found accesses decode_by by_opcode memory jumps branches immediates loads stores conditionals
returns-in_ok-near-in-63 c = reaches _ _ _ _ c.requires.1 0x3f c.in-63.is (omega arith) refl c.near-in-63.ensures c.in_ok-near-in-63.was (simp (c.ok-in-63.ensures.value, c.sd.ensures))

pub returns-in_err-near-in-63 : goal.returns-in_err-near-in-63
returns-in_err-near-in-63 c = rw c.from_residual-in_err-near-in-63.ensures (reaches_none _ _ _ _)
