mod Reporting
