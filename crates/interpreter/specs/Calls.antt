-- System calls (document 01, "System calls, both rules"): which call it is, by number, descriptor and arguments.
-- The calls that touch no memory answer at once.
use Rattle.std.specs.Prelude.{ℕ, ◌+◌, ◌-◌, ◌*◌, ◌/◌, ◌%◌, ◌^◌, cond, ◌==◌}
use Rattle.interpreter.specs.Words.{plus}
use Rattle.interpreter.specs.declared.linux.Call.{Call}
use Rattle.interpreter.specs.declared.linux.Call.TheVariants.{Answer, Heap, Exit, Key, Input, Write, Hint}

-- the answer -1 with 9: a descriptor that is not named for the call
abbrev pub bad_descriptor : Call
bad_descriptor = Answer (2 ^ 64 - 1) 9

-- and with 22
abbrev pub bad_command : Call
bad_command = Answer (2 ^ 64 - 1) 22

-- up to a multiple of 4,096, modulo 2^64
abbrev pub rounded : ℕ → ℕ
rounded n = (n + 4095) / 4096 * 4096 % 2 ^ 64

-- 5009
unfoldable pub mmap : ℕ → ℕ → ℕ → Call
mmap a0 a1 heap = cond (a0 == 0) (Heap (plus heap (rounded a1))) (Answer a0 0)

-- 5000
unfoldable pub reading : ℕ → ℕ → Call
reading fd a2 =
    cond (fd == 0) (Answer 0 0)
    (cond (fd == 3) (Answer a2 0)
    (cond (fd == 5) Input
    bad_descriptor))

-- 5001
unfoldable pub writing : ℕ → Call
writing fd =
    cond (fd == 1) (Write 1)
    (cond (fd == 2) (Write 2)
    (cond (fd == 4) Hint
    (cond (fd == 6) Key
    bad_descriptor)))

-- 5070: 0, 3 and 5 are read, 1, 2, 4 and 6 are written
unfoldable pub mode_of : ℕ → Call
mode_of fd =
    cond (fd == 0) (Answer 0 0)
    (cond (fd == 3) (Answer 0 0)
    (cond (fd == 5) (Answer 0 0)
    (cond (fd == 1) (Answer 1 0)
    (cond (fd == 2) (Answer 1 0)
    (cond (fd == 4) (Answer 1 0)
    (cond (fd == 6) (Answer 1 0)
    bad_descriptor))))))

unfoldable pub control : ℕ → ℕ → Call
control fd a1 = cond (a1 == 3) (mode_of fd) bad_command

-- the call with this number, descriptor, arguments and heap; an unknown one answers 0
unfoldable pub call_of : ℕ → ℕ → ℕ → ℕ → ℕ → ℕ → Call
call_of number fd a0 a1 a2 heap =
    cond (number == 5000) (reading fd a2)
    (cond (number == 5001) (writing fd)
    (cond (number == 5009) (mmap a0 a1 heap)
    (cond (number == 5012) (Answer 0x40000000 0)
    (cond (number == 5055) (Answer 1 0)
    (cond (number == 5070) (control fd a1)
    (cond (number == 5205) (Exit (a0 % 256))
    (Answer 0 0)))))))
