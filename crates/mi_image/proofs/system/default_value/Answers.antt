use Rattle.mi_base.specs.System.{default_system}
use Rattle.mi_image.proofs.SystemLemmas.{none_named}
use Rattle.mi_image.proofs.system.default_value.Goals as goal

pub returns-in_default : goal.returns-in_default
unfolding default_system
returns-in_default c = none_named c.args.property.now default_system (c.in_default.not-VersionNT, (c.in_default.not-VersionNT64, (c.in_default.not-Privileged, (c.in_default.not-AdminUser, (c.in_default.not-UserLanguageID, (c.in_default.not-SystemLanguageID, (c.in_default.not-WindowsFolder, (c.in_default.not-SystemFolder, (c.in_default.not-ProgramFilesFolder, (c.in_default.not-ProgramFiles64Folder, (c.in_default.not-CommonFilesFolder, (c.in_default.not-CommonAppDataFolder, (c.in_default.not-AppDataFolder, (c.in_default.not-LocalAppDataFolder, (c.in_default.not-DesktopFolder, (c.in_default.not-StartMenuFolder, (c.in_default.not-ProgramMenuFolder, (c.in_default.not-TempFolder, tt))))))))))))))))))
