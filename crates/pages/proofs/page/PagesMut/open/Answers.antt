use Rattle.pages.specs.Pages.{open_page}
use Rattle.pages.proofs.page.PagesMut.open.Goals as goal

pub returns-clause-bytes : goal.returns-clause-bytes
unfolding open_page
returns-clause-bytes c = cc
