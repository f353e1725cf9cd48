use Rattle.std.proofs.Common.{refl, arith}
use Rattle.interpreter.specs.OpcodeMap.{find, found, accesses, decode_by, by_opcode, memory, jumps, branches, immediates, loads, stores, conditionals}
use Rattle.interpreter.proofs.Laws.Frequent.{reaches, reaches_none}
use Rattle.interpreter.proofs.frequent.parts.Goals as goal

pub returns-in_ok-near-in-26 : goal.returns-in_ok-near-in-26
unfolding find found accesses decode_by by_opcode memory jumps branches immediates loads stores conditionals
returns-in_ok-near-in-26 c = reaches _ _ _ _ c.requires.1 0x1a c.in-26.is (omega arith) refl c.near.ensures c.in_ok-near-in-26.was (simp (c.ok.ensures.value, c.ldl.ensures))

pub returns-in_err-near-in-26 : goal.returns-in_err-near-in-26
returns-in_err-near-in-26 c = rw c.from_residual.ensures (reaches_none _ _ _ _)

pub returns-in_ok-near-in-27 : goal.returns-in_ok-near-in-27
unfolding find found accesses decode_by by_opcode memory jumps branches immediates loads stores conditionals
returns-in_ok-near-in-27 c = reaches _ _ _ _ c.requires.1 0x1b c.in-27.is (omega arith) refl c.near-in-27.ensures c.in_ok-near-in-27.was (simp (c.ok-in-27.ensures.value, c.ldr.ensures))

pub returns-in_err-near-in-27 : goal.returns-in_err-near-in-27
returns-in_err-near-in-27 c = rw c.from_residual-in_err-near-in-27.ensures (reaches_none _ _ _ _)

pub returns-in_ok-near-in-34 : goal.returns-in_ok-near-in-34
unfolding find found accesses decode_by by_opcode memory jumps branches immediates loads stores conditionals
returns-in_ok-near-in-34 c = reaches _ _ _ _ c.requires.1 0x22 c.in-34.is (omega arith) refl c.near-in-34.ensures c.in_ok-near-in-34.was (simp (c.ok-in-34.ensures.value, c.lwl.ensures))

pub returns-in_err-near-in-34 : goal.returns-in_err-near-in-34
returns-in_err-near-in-34 c = rw c.from_residual-in_err-near-in-34.ensures (reaches_none _ _ _ _)

pub returns-in_ok-near-in-38 : goal.returns-in_ok-near-in-38
unfolding find found accesses decode_by by_opcode memory jumps branches immediates loads stores conditionals
returns-in_ok-near-in-38 c = reaches _ _ _ _ c.requires.1 0x26 c.in-38.is (omega arith) refl c.near-in-38.ensures c.in_ok-near-in-38.was (simp (c.ok-in-38.ensures.value, c.lwr.ensures))

pub returns-in_err-near-in-38 : goal.returns-in_err-near-in-38
returns-in_err-near-in-38 c = rw c.from_residual-in_err-near-in-38.ensures (reaches_none _ _ _ _)

pub returns-in_ok-near-in-44 : goal.returns-in_ok-near-in-44
unfolding find found accesses decode_by by_opcode memory jumps branches immediates loads stores conditionals
returns-in_ok-near-in-44 c = reaches _ _ _ _ c.requires.1 0x2c c.in-44.is (omega arith) refl c.near-in-44.ensures c.in_ok-near-in-44.was (simp (c.ok-in-44.ensures.value, c.sdl.ensures))

pub returns-in_err-near-in-44 : goal.returns-in_err-near-in-44
returns-in_err-near-in-44 c = rw c.from_residual-in_err-near-in-44.ensures (reaches_none _ _ _ _)

pub returns-in_ok-near-in-45 : goal.returns-in_ok-near-in-45
unfolding find found accesses decode_by by_opcode memory jumps branches immediates loads stores conditionals
returns-in_ok-near-in-45 c = reaches _ _ _ _ c.requires.1 0x2d c.in-45.is (omega arith) refl c.near-in-45.ensures c.in_ok-near-in-45.was (simp (c.ok-in-45.ensures.value, c.sdr.ensures))

pub returns-in_err-near-in-45 : goal.returns-in_err-near-in-45
returns-in_err-near-in-45 c = rw c.from_residual-in_err-near-in-45.ensures (reaches_none _ _ _ _)

pub returns-in_ok-near-in-42 : goal.returns-in_ok-near-in-42
unfolding find found accesses decode_by by_opcode memory jumps branches immediates loads stores conditionals
returns-in_ok-near-in-42 c = reaches _ _ _ _ c.requires.1 0x2a c.in-42.is (omega arith) refl c.near-in-42.ensures c.in_ok-near-in-42.was (simp (c.ok-in-42.ensures.value, c.swl.ensures))

pub returns-in_err-near-in-42 : goal.returns-in_err-near-in-42
returns-in_err-near-in-42 c = rw c.from_residual-in_err-near-in-42.ensures (reaches_none _ _ _ _)

pub returns-in_ok-near-in-46 : goal.returns-in_ok-near-in-46
unfolding find found accesses decode_by by_opcode memory jumps branches immediates loads stores conditionals
returns-in_ok-near-in-46 c = reaches _ _ _ _ c.requires.1 0x2e c.in-46.is (omega arith) refl c.near-in-46.ensures c.in_ok-near-in-46.was (simp (c.ok-in-46.ensures.value, c.swr.ensures))

pub returns-in_err-near-in-46 : goal.returns-in_err-near-in-46
returns-in_err-near-in-46 c = rw c.from_residual-in_err-near-in-46.ensures (reaches_none _ _ _ _)

pub returns-in_default : goal.returns-in_default
returns-in_default c = reaches_none _ _ _ _
