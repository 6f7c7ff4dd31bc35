-- A device on a file or a disk that was just opened.
use Rattle.std.specs.Prelude.{◌≡◌, ◌*◌, ◌<◌, ◌^◌, false}
use Rattle.device_files.specs.FailStop.{FailStopState}
use Rattle.device_files.specs.RealFile.{FileState}

-- Its bytes have numbers that the system takes, it works, and no call of it has failed or was
-- refused.
pub record IsJustOpened (device : FailStopState FileState) : Type 0 where
  pub fits : device.inner.sectors * 512 < 2 ^ 63
  pub works : device.stopped ≡ false
  pub no_failure : device.inner.failures ≡ 0
  pub no_refusal : device.refused ≡ 0
