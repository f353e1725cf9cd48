use Rattle.interpreter.specs.OpcodeMap.{find, found, special, jump_registers, others, hilos, registers, shifts, sums, logic}
use Rattle.interpreter.specs.Alu.{result}
use Rattle.interpreter.specs.HiLo.{hi_lo}
use Rattle.interpreter.specs.Kernel.{jumping, does_other, does}
use Rattle.interpreter.proofs.Laws.Frequent.{quiet_special, quiet_none}
use Rattle.interpreter.proofs.frequent.special.Goals as goal

pub returns-in-64 : goal.returns-in-64
unfolding find found special jump_registers others hilos registers shifts sums logic result hi_lo jumping does_other does
returns-in-64 c = quiet_special _ c.requires 0x0 c.in-64.is (simp (c.to_rd.ensures, c.shift_left.ensures, c.rules.ensures, c.shamt.ensures))

pub returns-in-66 : goal.returns-in-66
unfolding find found special jump_registers others hilos registers shifts sums logic result hi_lo jumping does_other does
returns-in-66 c = quiet_special _ c.requires 0x2 c.in-66.is (simp (c.to_rd-in-66.ensures, c.shift_right.ensures, c.shamt-in-66.ensures))

pub returns-in-67 : goal.returns-in-67
unfolding find found special jump_registers others hilos registers shifts sums logic result hi_lo jumping does_other does
returns-in-67 c = quiet_special _ c.requires 0x3 c.in-67.is (simp (c.to_rd-in-67.ensures, c.shift_signed.ensures, c.shamt-in-67.ensures))

pub returns-in-68 : goal.returns-in-68
unfolding find found special jump_registers others hilos registers shifts sums logic result hi_lo jumping does_other does
returns-in-68 c = quiet_special _ c.requires 0x4 c.in-68.is (simp (c.to_rd-in-68.ensures, c.shift_left-in-68.ensures, c.rules-in-68.ensures))

pub returns-in-70 : goal.returns-in-70
unfolding find found special jump_registers others hilos registers shifts sums logic result hi_lo jumping does_other does
returns-in-70 c = quiet_special _ c.requires 0x6 c.in-70.is (simp (c.to_rd-in-70.ensures, c.shift_right-in-70.ensures))

pub returns-in-71 : goal.returns-in-71
unfolding find found special jump_registers others hilos registers shifts sums logic result hi_lo jumping does_other does
returns-in-71 c = quiet_special _ c.requires 0x7 c.in-71.is (simp (c.to_rd-in-71.ensures, c.shift_signed_by.ensures, c.rules-in-71.ensures))

pub returns-in-72 : goal.returns-in-72
unfolding find found special jump_registers others hilos registers shifts sums logic result hi_lo jumping does_other does
returns-in-72 c = quiet_special _ c.requires 0x8 c.in-72.is (simp (c.ok.ensures.value, c.going.ensures))

pub returns-in-73 : goal.returns-in-73
unfolding find found special jump_registers others hilos registers shifts sums logic result hi_lo jumping does_other does
returns-in-73 c = quiet_special _ c.requires 0x9 c.in-73.is (simp (c.ok-in-73.ensures.value, c.going-in-73.ensures, c.decode.ensures, c.link.ensures))

pub returns-in-74 : goal.returns-in-74
unfolding find found special jump_registers others hilos registers shifts sums logic result hi_lo jumping does_other does
returns-in-74 c = quiet_special _ c.requires 0xa c.in-74.is (simp c.move_if.ensures)

pub returns-in-75 : goal.returns-in-75
unfolding find found special jump_registers others hilos registers shifts sums logic result hi_lo jumping does_other does
returns-in-75 c = quiet_special _ c.requires 0xb c.in-75.is (simp c.move_if-in-75.ensures)

pub returns-in-79 : goal.returns-in-79
unfolding find found special jump_registers others hilos registers shifts sums logic result hi_lo jumping does_other does
returns-in-79 c = quiet_special _ c.requires 0xf c.in-79.is (simp c.sync.ensures)

pub returns-in-80 : goal.returns-in-80
unfolding find found special jump_registers others hilos registers shifts sums logic result hi_lo jumping does_other does
returns-in-80 c = quiet_special _ c.requires 0x10 c.in-80.is (simp c.to_rd-in-80.ensures)

pub returns-in-82 : goal.returns-in-82
unfolding find found special jump_registers others hilos registers shifts sums logic result hi_lo jumping does_other does
returns-in-82 c = quiet_special _ c.requires 0x12 c.in-82.is (simp c.to_rd-in-82.ensures)

pub returns-in-84 : goal.returns-in-84
unfolding find found special jump_registers others hilos registers shifts sums logic result hi_lo jumping does_other does
returns-in-84 c = quiet_special _ c.requires 0x14 c.in-84.is (simp (c.to_rd-in-84.ensures, c.double_left.ensures))

pub returns-in-86 : goal.returns-in-86
unfolding find found special jump_registers others hilos registers shifts sums logic result hi_lo jumping does_other does
returns-in-86 c = quiet_special _ c.requires 0x16 c.in-86.is (simp (c.to_rd-in-86.ensures, c.double_right.ensures))

pub returns-in-87 : goal.returns-in-87
unfolding find found special jump_registers others hilos registers shifts sums logic result hi_lo jumping does_other does
returns-in-87 c = quiet_special _ c.requires 0x17 c.in-87.is (simp (c.to_rd-in-87.ensures, c.shift_signed-in-87.ensures))

pub returns-in-92 : goal.returns-in-92
unfolding find found special jump_registers others hilos registers shifts sums logic result hi_lo jumping does_other does
returns-in-92 c = quiet_special _ c.requires 0x1c c.in-92.is (simp (c.to_hi_lo.ensures, c.dmult.ensures, c.rules-in-92.ensures))

pub returns-in-93 : goal.returns-in-93
unfolding find found special jump_registers others hilos registers shifts sums logic result hi_lo jumping does_other does
returns-in-93 c = quiet_special _ c.requires 0x1d c.in-93.is (simp (c.to_hi_lo-in-93.ensures, c.dmultu.ensures))

pub returns-in-97 : goal.returns-in-97
unfolding find found special jump_registers others hilos registers shifts sums logic result hi_lo jumping does_other does
returns-in-97 c = quiet_special _ c.requires 0x21 c.in-97.is (simp (c.to_rd-in-97.ensures, c.sum.ensures))

pub returns-in-99 : goal.returns-in-99
unfolding find found special jump_registers others hilos registers shifts sums logic result hi_lo jumping does_other does
returns-in-99 c = quiet_special _ c.requires 0x23 c.in-99.is (simp (c.to_rd-in-99.ensures, c.difference.ensures, c.rules-in-99.ensures))

pub returns-in-100 : goal.returns-in-100
unfolding find found special jump_registers others hilos registers shifts sums logic result hi_lo jumping does_other does
returns-in-100 c = quiet_special _ c.requires 0x24 c.in-100.is (simp (c.to_rd-in-100.ensures, c.and.ensures))

pub returns-in-101 : goal.returns-in-101
unfolding find found special jump_registers others hilos registers shifts sums logic result hi_lo jumping does_other does
returns-in-101 c = quiet_special _ c.requires 0x25 c.in-101.is (simp (c.to_rd-in-101.ensures, c.or.ensures))

pub returns-in-102 : goal.returns-in-102
unfolding find found special jump_registers others hilos registers shifts sums logic result hi_lo jumping does_other does
returns-in-102 c = quiet_special _ c.requires 0x26 c.in-102.is (simp (c.to_rd-in-102.ensures, c.xor.ensures))

pub returns-in-103 : goal.returns-in-103
unfolding find found special jump_registers others hilos registers shifts sums logic result hi_lo jumping does_other does
returns-in-103 c = quiet_special _ c.requires 0x27 c.in-103.is (simp (c.to_rd-in-103.ensures, c.nor.ensures))

pub returns-in-106 : goal.returns-in-106
unfolding find found special jump_registers others hilos registers shifts sums logic result hi_lo jumping does_other does
returns-in-106 c = quiet_special _ c.requires 0x2a c.in-106.is (simp (c.to_rd-in-106.ensures, c.flag.ensures, c.less.ensures))

pub returns-in-107 : goal.returns-in-107
unfolding find found special jump_registers others hilos registers shifts sums logic result hi_lo jumping does_other does
returns-in-107 c = quiet_special _ c.requires 0x2b c.in-107.is (simp (c.to_rd-in-107.ensures, c.flag-in-107.ensures))

pub returns-in-109 : goal.returns-in-109
unfolding find found special jump_registers others hilos registers shifts sums logic result hi_lo jumping does_other does
returns-in-109 c = quiet_special _ c.requires 0x2d c.in-109.is (simp (c.to_rd-in-109.ensures, c.plus.ensures))

pub returns-in-111 : goal.returns-in-111
unfolding find found special jump_registers others hilos registers shifts sums logic result hi_lo jumping does_other does
returns-in-111 c = quiet_special _ c.requires 0x2f c.in-111.is (simp (c.to_rd-in-111.ensures, c.minus.ensures))

pub returns-in-120 : goal.returns-in-120
unfolding find found special jump_registers others hilos registers shifts sums logic result hi_lo jumping does_other does
returns-in-120 c = quiet_special _ c.requires 0x38 c.in-120.is (simp (c.to_rd-in-120.ensures, c.double_left-in-120.ensures, c.shamt-in-120.ensures))

pub returns-in-122 : goal.returns-in-122
unfolding find found special jump_registers others hilos registers shifts sums logic result hi_lo jumping does_other does
returns-in-122 c = quiet_special _ c.requires 0x3a c.in-122.is (simp (c.to_rd-in-122.ensures, c.double_right-in-122.ensures, c.shamt-in-122.ensures))

pub returns-in-123 : goal.returns-in-123
unfolding find found special jump_registers others hilos registers shifts sums logic result hi_lo jumping does_other does
returns-in-123 c = quiet_special _ c.requires 0x3b c.in-123.is (simp (c.to_rd-in-123.ensures, c.shift_signed-in-123.ensures, c.shamt-in-123.ensures))

pub returns-in-124 : goal.returns-in-124
unfolding find found special jump_registers others hilos registers shifts sums logic result hi_lo jumping does_other does
returns-in-124 c = quiet_special _ c.requires 0x3c c.in-124.is (simp (c.to_rd-in-124.ensures, c.double_left-in-124.ensures, c.shamt-in-124.ensures))

pub returns-in-126 : goal.returns-in-126
unfolding find found special jump_registers others hilos registers shifts sums logic result hi_lo jumping does_other does
returns-in-126 c = quiet_special _ c.requires 0x3e c.in-126.is (simp (c.to_rd-in-126.ensures, c.double_right-in-126.ensures, c.shamt-in-126.ensures))

pub returns-in-127 : goal.returns-in-127
unfolding find found special jump_registers others hilos registers shifts sums logic result hi_lo jumping does_other does
returns-in-127 c = quiet_special _ c.requires 0x3f c.in-127.is (simp (c.to_rd-in-127.ensures, c.shift_signed-in-127.ensures, c.shamt-in-127.ensures))

pub returns-in_default : goal.returns-in_default
returns-in_default c = quiet_none _
